-- `pairing::mark_each` meets its contract: so far the masks of the first k words of evaluations are marked. Assumes nothing.
use Prim.Native.Nat.{◌-◌, ◌*◌, ◌≤◌, min}
use Rattle.evalset.specs.Bit.{word_bits}
use Rattle.pairing.specs.Masks.{MarkedTo}
use Rattle.pairing.proofs.mark_each.Given as goal

abbrev pub invariant-loop-k : goal.invariant-loop-k
invariant-loop-k l = MarkedTo l.x l.y (min l.top (word_bits * l.k)) l.initial.masks l.masks
