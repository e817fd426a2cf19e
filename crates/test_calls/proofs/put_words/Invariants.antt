-- `test_calls::put_words` meets its contract: `put_word` stays within the words. Assumes nothing.
use mathlib.Core.Path.{◌≡◌}
use Prim.Native.Nat.{◌≤◌}
use lib.ListN.{length}
use Rattle.test_calls.proofs.put_words.Given as goal

abbrev pub invariant-loop-word : goal.invariant-loop-word
invariant-loop-word l = (l.end ≤ length l.words) × (length l.words ≡ length l.initial.words)
