-- `kleene::run_whole` meets its contract: each turn keeps `Whole`, and what a sign takes is there because the code is safe.
-- Assumes nothing.
use Rattle.kleene.proofs.Whole.{Whole}
use Rattle.kleene.proofs.run_whole.Given as goal

abbrev pub invariant-loop-c : goal.invariant-loop-c
invariant-loop-c l = Whole l.code l.leaves l.stack l.top l.height l.c-index
