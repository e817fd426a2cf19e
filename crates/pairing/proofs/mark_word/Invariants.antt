-- `pairing::mark_word` meets its contract: so far the masks of the first e evaluations from one on are marked. Assumes nothing.
use Prim.Native.Nat.{◌-◌, ◌≤◌}
use Rattle.pairing.specs.Masks.{MarkedIn}
use Rattle.pairing.proofs.mark_word.Given as goal

abbrev pub invariant-loop-e : goal.invariant-loop-e
invariant-loop-e l = MarkedIn l.x l.y l.from l.e l.initial.masks l.masks
