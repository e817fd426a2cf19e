-- `test_remarks::show_log` is safe and ends: the table came from us, each piece goes on to a later place, and no line has a number above its
-- place. Assumes nothing.
use native.Mathlib.Omega.{arith}
use Rattle.test_remarks.proofs.show_log.Goals as goal

pub loop-state-init : goal.loop-state-init
loop-state-init g c = (c.start-state.ensures.1, omega arith)

pub overflow_add-count : goal.overflow_add-count
overflow_add-count g c = omega (arith, c.loop-state.invariant.1, c.well_formed)

pub loop-state-smaller : goal.loop-state-smaller
loop-state-smaller g c = omega (arith, c.next_piece-state.ensures.forward (omega (arith, c.loop-state-test.true)))

pub loop-state-preserved : goal.loop-state-preserved
loop-state-preserved g c = (c.next_piece-state.ensures.from_us, omega (arith, c.loop-state.invariant.1, c.next_piece-state.ensures.forward (omega (arith, c.loop-state-test.true))))
