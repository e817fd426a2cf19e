-- `names::gather` meets its contract: the names and numbers that are in the arrays, and what follows for the tokens that are left, give
-- the answer for the whole text (the invariant). Assumes nothing.
use Rattle.names.proofs.Gathering.{Going}
use Rattle.names.proofs.gather.Given as goal

abbrev pub invariant-loop-i : goal.invariant-loop-i
invariant-loop-i l = Going l.text l.rule.tokens.kinds l.rule.tokens.starts l.rule.tokens.lens l.rule.tokens.n l.initial.known l.known l.numbers l.m l.i
