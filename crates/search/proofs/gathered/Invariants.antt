-- `search::gathered` meets its contract: what the marks of the atoms passed give is gathered. Assumes nothing.
use mathlib.Core.Path.{◌≡◌}
use mathlib.Core.List.{List}
use Prim.Native.Nat.{ℕ}
use lib.ListN.{take}
use Rattle.formula.specs.Formula.{Atom}
use Rattle.lists.specs.Search.{collect, elem}
use Rattle.evalset.specs.Sets.{mem}
use Rattle.contact.specs.Plan.{Mark, row_marks, gives}
use Rattle.search.specs.Rows.{row_bits}
use Rattle.search.specs.Compiled.{Compiled, state, Fit}
use Rattle.search.proofs.gathered.Given as goal

abbrev pub invariant-loop-i : goal.invariant-loop-i
invariant-loop-i l =
    (l.n ≡ l.chart.atoms)
    × ((atoms : List (Atom ℕ)) → Compiled l.chart atoms → (ms : List Mark) → Fit l.chart.names (state l.allowed l.rows) ms
    → (e : ℕ) → mem l.acc e ≡ elem e (collect (gives l.chart.names ms) (row_marks atoms (take l.i (row_bits l.n l.row)))))
