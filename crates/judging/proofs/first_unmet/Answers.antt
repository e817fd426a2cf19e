-- `judging::first_unmet` meets its contract: the rules passed are met, and the judgement is that of the rules left. Assumes nothing.
use native.Mathlib.Omega.{arith}
use Rattle.judging.proofs.Rules.{begins, part_safe, goes_on, stops, all_met}
use Rattle.judging.proofs.first_unmet.Goals as goal

pub loop-i-init : goal.loop-i-init
loop-i-init c = begins _ _ _ c.requires

pub rule_value-requires : goal.rule_value-requires
rule_value-requires c = part_safe c.loop-i.invariant (omega arith)

pub returns-then-not-rule_value : goal.returns-then-not-rule_value
returns-then-not-rule_value c = stops c.loop-i.invariant (omega arith) c.rule_value.ensures (c.if-not-rule_value.true)

pub loop-i-preserved : goal.loop-i-preserved
loop-i-preserved c = goes_on c.loop-i.invariant (omega arith) c.rule_value.ensures (c.if-not-rule_value.false)

pub returns : goal.returns
returns c = all_met c.loop-i.invariant (omega arith)
