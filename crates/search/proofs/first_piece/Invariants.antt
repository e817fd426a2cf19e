-- `search::first_piece` meets its contract: each piece that is tried is that of the least evaluation left. Assumes nothing.
use mathlib.Core.List.{List}
use Prim.Native.Nat.{ℕ}
use Rattle.formula.specs.Formula.{Atom}
use Rattle.evalset.specs.Sets.{mem}
use Rattle.search.specs.Compiled.{Compiled, state, Fit}
use Rattle.search.specs.Planned.{marks_in}
use Rattle.search.proofs.Finding.{left_over, Sought}
use Rattle.search.proofs.first_piece.Given as goal

abbrev pub invariant-loop-e : goal.invariant-loop-e
invariant-loop-e l =
    (atoms : List (Atom ℕ)) → Compiled l.chart atoms → Fit l.chart.names (state l.allowed l.rows) (marks_in l.chart atoms l.row)
    → Sought l.chart.names (marks_in l.chart atoms l.row) (mem l.left)

abbrev pub decreases-loop-e : goal.decreases-loop-e
decreases-loop-e l = left_over (mem l.left)
