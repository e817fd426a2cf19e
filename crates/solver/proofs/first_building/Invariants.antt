-- `solver::first_building` meets its contract: so far the rows below some place are tried, and no piece meets those from there to `till`. Assumes
-- nothing.
use Prim.Native.Nat.{ℕ, ◌+◌}
use Rattle.pairing.proofs.Walking.{places_left}
use Rattle.solver.specs.Tree.{Shut}
use Rattle.solver.proofs.Choosing.{Tried}
use Rattle.solver.proofs.first_building.Given as goal

abbrev pub invariant-loop-e : goal.invariant-loop-e
invariant-loop-e l =
    (at : ℕ) × Tried l.chart l.set l.start l.rest at × Shut l.chart (l.start + at) l.till

abbrev pub decreases-loop-e : goal.decreases-loop-e
decreases-loop-e l = places_left l.rest
