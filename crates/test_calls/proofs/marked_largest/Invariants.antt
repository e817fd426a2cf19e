-- `test_calls::marked_largest` meets its contract: a store keeps the number of words, each index is tested. Assumes nothing.
use lib.ListN.{length}
use mathlib.Core.Path.{◌≡◌}
use Rattle.test_calls.proofs.marked_largest.Given as goal

abbrev pub invariant-loop-i : goal.invariant-loop-i
invariant-loop-i l = length l.words ≡ 32643
