-- `search::state_of` meets its contract: the state is that of the marks of the atoms passed. Assumes nothing.
use mathlib.Core.Path.{◌≡◌}
use mathlib.Core.List.{List}
use Prim.Native.Nat.{ℕ, ◌^◌, ◌≤◌}
use lib.ListN.{length, take}
use Rattle.formula.specs.Formula.{Atom}
use Rattle.squares.specs.Square.{reach}
use Rattle.contact.specs.Plan.{row_marks}
use Rattle.search.specs.Rows.{row_bits}
use Rattle.search.specs.Compiled.{Compiled, state, Fit}
use Rattle.search.proofs.state_of.Given as goal

abbrev pub invariant-loop-i : goal.invariant-loop-i
invariant-loop-i l =
    (l.n ≡ l.chart.atoms) × (length l.rows ≡ length l.initial.rows)
    × ((atoms : List (Atom ℕ)) → Compiled l.chart atoms → 2 ^ l.chart.names ≤ reach l.initial.rows
    → Fit l.chart.names (state l.allowed l.rows) (row_marks atoms (take l.i (row_bits l.n l.row))))
