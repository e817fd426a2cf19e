-- `evalset::least` meets its contract: all words before were clear, and the lowest bit of the first that is not is the least member.
-- Assumes nothing.
use Rattle.evalset.proofs.Words.{Clear}
use Rattle.evalset.proofs.least.Given as goal

abbrev pub invariant-loop-k : goal.invariant-loop-k
invariant-loop-k l = Clear l.s l.k
