-- `test_examples::put_pairs` is safe: each line is put into the same buffer. Assumes nothing.
use mathlib.Core.Path.{◌≡◌}
use lib.ListN.{length}
use Rattle.test_examples.proofs.put_pairs.Given as goal

abbrev pub invariant-loop-i : goal.invariant-loop-i
invariant-loop-i l = length l.text ≡ length l.initial.text

abbrev pub invariant-loop-j : goal.invariant-loop-j
invariant-loop-j l = length l.text ≡ length l.initial.text
