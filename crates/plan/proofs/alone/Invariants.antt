-- `plan::alone` meets its contract: one row after the other gets its own position. Assumes nothing.
use Rattle.plan.specs.Private.{self_of, Grown}
use Rattle.plan.proofs.alone.Given as goal

abbrev pub invariant-loop-i : goal.invariant-loop-i
invariant-loop-i l = Grown (self_of l.i) l.initial.square l.square
