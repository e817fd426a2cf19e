-- `pairing::pair_words` meets its contract: so far the words with the first f classes are made. Assumes nothing.
use Prim.Native.Nat.{◌+◌, ◌-◌, ◌≤◌}
use Rattle.pairing.specs.Masks.{PairsIn}
use Rattle.pairing.proofs.pair_words.Given as goal

abbrev pub invariant-loop-f : goal.invariant-loop-f
invariant-loop-f l = PairsIn l.zeros l.masks l.e l.f l.words
