-- `trees::leaves` meets its contract: so far the first i leaves are set. Assumes nothing.
use Rattle.trees.proofs.Rules.{LeavesTo}
use Rattle.trees.proofs.leaves.Given as goal

abbrev pub invariant-loop-i : goal.invariant-loop-i
invariant-loop-i l = LeavesTo l.word l.many l.i l.out
