-- `test_plan_words::apart_in` is safe: 1,024 words are a square. Assumes nothing.
use mathlib.Core.Path.{◌≡◌}
use lib.ListN.{length}
use Rattle.test_plan_words.proofs.apart_in.Given as goal

abbrev pub invariant-loop-i : goal.invariant-loop-i
invariant-loop-i l = length l.square ≡ 1024
