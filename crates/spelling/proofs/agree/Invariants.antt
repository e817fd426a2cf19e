-- `spelling::agree` meets its contract: so far the symbols agree. Assumes nothing.
use Rattle.spelling.specs.Comparing.{Agree}
use Rattle.spelling.proofs.agree.Given as goal

abbrev pub invariant-loop-i : goal.invariant-loop-i
invariant-loop-i l = Agree l.kept l.number l.at l.row l.start l.i
