-- `building::write_plan` ends: each piece goes on to a later word. Assumes nothing.
use Rattle.std.proofs.Common.{arith}
use Rattle.building.proofs.write_plan.Goals as goal

pub loop-next-smaller : goal.loop-next-smaller
loop-next-smaller g c = omega (arith, c.building_piece-piece.ensures.forward (omega arith))
