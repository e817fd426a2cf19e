-- `test_calls::marked` meets its contract: a store keeps the number of words, each index is tested. Assumes nothing.
use lib.ListN.{length}
use mathlib.Core.Path.{◌≡◌}
use Rattle.test_calls.proofs.marked.Given as goal

abbrev pub invariant-loop-i : goal.invariant-loop-i
invariant-loop-i l = length l.words ≡ 2083
