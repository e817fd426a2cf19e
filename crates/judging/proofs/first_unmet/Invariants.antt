-- `judging::first_unmet` meets its contract: the rules passed are met, and the judgement is that of the rules left. Assumes nothing.
use Rattle.judging.proofs.Rules.{Going}
use Rattle.judging.proofs.first_unmet.Given as goal

abbrev pub invariant-loop-i : goal.invariant-loop-i
invariant-loop-i l = Going l.code l.ends l.atoms l.from l.i
