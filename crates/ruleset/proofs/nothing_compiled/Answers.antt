-- `ruleset::nothing_compiled` meets its contract: of no rule there is no code. Assumes nothing.
use Rattle.ruleset.specs.Texts.{NothingKnown, NothingCompiled}
use Rattle.ruleset.proofs.Coding.{coded_none}
use Rattle.ruleset.proofs.nothing_compiled.Goals as goal

pub returns : goal.returns
unfolding NothingCompiled NothingKnown
returns c = λ kept code w. record {
  known = c.nothing_known-known.ensures kept w;
  coded = coded_none _ code _ _ (c.nothing_known-known.ensures kept w).counted;
}
