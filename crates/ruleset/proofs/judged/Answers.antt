-- `ruleset::judged` meets its contract: the compiled rules may be run, and what `judge_plan` answers of them is the judgement of the
-- rules as read (Claims.antt). Assumes nothing.
use mathlib.Core.Path.{◌≡◌, sym}
use borrow.Author.Rules.{rules}
use lib.ListN.{length}
use lib.Seq.{length-take-le}
use Rattle.ruleset.specs.Texts.{JudgedIs}
use Rattle.ruleset.proofs.Claims.{may_run, ends_fit, answer_judged}
use Rattle.ruleset.proofs.judged.Goals as goal

-- the ends of the rules have their places
pub slice_bounds-ends-end : goal.slice_bounds-ends-end
slice_bounds-ends-end c =
    let long : length c.args.c.ends ≡ 16 = search rules in
    ends_fit _ _ _ _ c.requires.rules_compiled long

pub slice_bounds-judge_plan-end : goal.slice_bounds-judge_plan-end
slice_bounds-judge_plan-end c =
    let long : length c.args.c.ends ≡ 16 = search rules in
    sym (length-take-le _ _ (ends_fit _ _ _ _ c.requires.rules_compiled long))

pub judge_plan-requires : goal.judge_plan-requires
judge_plan-requires c = may_run _ _ _ _ c.requires.rules_compiled

pub returns : goal.returns
unfolding JudgedIs
returns c = λ rules kept h p is named stored. answer_judged rules _ kept _ h _ _ p is named stored c.judge_plan.ensures
