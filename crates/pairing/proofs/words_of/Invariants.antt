-- `pairing::words_of` meets its contract: so far the words of the pairs of the first e classes are noted. Assumes nothing.
use mathlib.Core.Path.{◌≡◌}
use Prim.Native.Nat.{◌-◌, ◌≤◌}
use lib.ListN.{length}
use Rattle.pairing.specs.Masks.{all_pairs}
use Rattle.pairing.specs.Listed.{Noted}
use Rattle.pairing.proofs.words_of.Given as goal

abbrev pub invariant-loop-e : goal.invariant-loop-e
invariant-loop-e l =
    (length l.words ≡ 256) × Noted (all_pairs l.zeros l.masks l.e) l.initial.seen l.initial.list 0 l.seen l.list l.count
