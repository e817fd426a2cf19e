-- `kleene::run_rails` meets its contract: each turn keeps `Railed`, and what a sign takes is there because the code is safe.
-- Assumes nothing.
use Rattle.kleene.proofs.Railed.{Railed}
use Rattle.kleene.proofs.run_rails.Given as goal

abbrev pub invariant-loop-c : goal.invariant-loop-c
invariant-loop-c l = Railed l.code l.yes l.no l.ys l.ns l.y l.n l.height l.c-index
