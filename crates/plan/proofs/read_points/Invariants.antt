-- `plan::read_points` meets its contract: what is left, read from the points so far, gives what all words give. Assumes nothing.
use Rattle.plan.specs.Private.{PointsHeld}
use Rattle.plan.proofs.read_points.Given as goal

abbrev pub invariant-loop-i : goal.invariant-loop-i
invariant-loop-i l = PointsHeld l.words l.names l.count l.i l.low l.points
