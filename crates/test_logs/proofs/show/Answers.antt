-- `test_logs::show` is safe and ends: the table came from us, and each piece goes on to a later place. Assumes nothing.
use native.Mathlib.Omega.{arith}
use Rattle.test_logs.proofs.show.Goals as goal

pub loop-state-init : goal.loop-state-init
loop-state-init g c = c.start-state.ensures.1

pub loop-state-smaller : goal.loop-state-smaller
loop-state-smaller g c = omega (arith, c.next_piece-state.ensures.forward (omega arith))

pub loop-state-preserved : goal.loop-state-preserved
loop-state-preserved g c = c.next_piece-state.ensures.from_us
