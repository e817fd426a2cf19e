-- `test_calls::every_somewhere` meets its contract: a store keeps the number of words, each index is tested. Assumes nothing.
use lib.ListN.{length}
use mathlib.Core.Path.{◌≡◌}
use Rattle.test_calls.proofs.every_somewhere.Given as goal

abbrev pub invariant-loop-e : goal.invariant-loop-e
invariant-loop-e l = length l.words ≡ 32643
