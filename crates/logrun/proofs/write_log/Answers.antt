-- `logrun::write_log` is safe and ends: the table came from us, each piece goes on to a later place, and no line has a number above its place.
-- Assumes nothing.
use native.Mathlib.Omega.{arith}
use Rattle.logrun.proofs.write_log.Goals as goal

pub loop-state-init : goal.loop-state-init
loop-state-init g c = (c.start-state.ensures.1, omega arith)

pub overflow_add-number : goal.overflow_add-number
overflow_add-number g c = omega (arith, c.loop-state.invariant.1, c.well_formed)

pub write_remark-requires : goal.write_remark-requires
write_remark-requires g c = c.loop-state.invariant.0

pub loop-state-smaller-then-text-eq114 : goal.loop-state-smaller-then-text-eq114
loop-state-smaller-then-text-eq114 g c = omega (arith, c.next_piece-next.ensures.forward (omega (arith, c.loop-state-test.true)))

pub loop-state-preserved-then-text-eq114 : goal.loop-state-preserved-then-text-eq114
loop-state-preserved-then-text-eq114 g c = (c.next_piece-next.ensures.from_us, omega (arith, c.loop-state.invariant.1, c.next_piece-next.ensures.forward (omega (arith, c.loop-state-test.true))))

pub loop-state-smaller : goal.loop-state-smaller
loop-state-smaller g c = omega (arith, c.next_piece-next.ensures.forward (omega (arith, c.loop-state-test.true)))

pub loop-state-preserved : goal.loop-state-preserved
loop-state-preserved g c = (c.next_piece-next.ensures.from_us, omega (arith, c.loop-state.invariant.1, c.next_piece-next.ensures.forward (omega (arith, c.loop-state-test.true))))
