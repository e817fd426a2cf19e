-- `search::met_by` meets its contract: the marks of the atoms passed are met, and one that is not ends the walk. Assumes nothing.
use mathlib.Core.Bool.{true}
use mathlib.Core.Path.{◌≡◌}
use mathlib.Core.List.{List}
use Prim.Native.Nat.{ℕ}
use lib.ListN.{take}
use Rattle.formula.specs.Formula.{Atom}
use Rattle.lists.specs.Search.{In, all, elem}
use Rattle.evalset.specs.Sets.{mem}
use Rattle.contact.specs.Plan.{Mark, row_marks, allowed, met}
use Rattle.search.specs.Rows.{row_bits}
use Rattle.search.specs.Compiled.{Compiled}
use Rattle.search.specs.Building.{RowsAre}
use Rattle.search.proofs.met_by.Given as goal

abbrev pub invariant-loop-i : goal.invariant-loop-i
invariant-loop-i l =
    (l.n ≡ l.chart.atoms)
    × ((atoms : List (Atom ℕ)) → Compiled l.chart atoms → (ms : List Mark) → RowsAre l.chart.names l.rows ms
    → (set : List ℕ) → ((f : ℕ) → mem l.piece f ≡ elem f set) → ((f : ℕ) → In f set → allowed l.chart.names ms f ≡ true)
    → all (met ms set) (row_marks atoms (take l.i (row_bits l.n l.row))) ≡ true)
