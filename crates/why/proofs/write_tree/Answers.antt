-- `why::write_tree` ends: each piece goes on to a later word. Assumes nothing.
use Rattle.std.proofs.Common.{arith}
use Rattle.why.proofs.write_tree.Goals as goal

pub loop-next-smaller : goal.loop-next-smaller
loop-next-smaller g c = omega (arith, c.why_piece-piece.ensures.forward (omega arith))
