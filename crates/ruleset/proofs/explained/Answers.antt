-- `ruleset::explained` meets its contract: the compiled rules may be run, and what `explain` answers of them is by the writer's trees of the
-- rules as read (Claims.antt). Assumes nothing.
use mathlib.Core.Path.{◌≡◌, sym}
use lib.ListN.{length}
use lib.Seq.{length-take-le}
use borrow.Author.Rules.{rules}
use Rattle.ruleset.specs.Texts.{ExplainedIs}
use Rattle.ruleset.proofs.Claims.{may_run, ends_fit, few_ends, answer_explained}
use Rattle.ruleset.proofs.explained.Goals as goal

-- the ends of the rules have their places
pub slice_bounds-ends-end : goal.slice_bounds-ends-end
slice_bounds-ends-end c =
    let long : length c.args.c.ends ≡ 16 = search rules in
    ends_fit _ _ _ _ c.requires.rules_compiled long

pub slice_bounds-explain-end : goal.slice_bounds-explain-end
slice_bounds-explain-end c =
    let long : length c.args.c.ends ≡ 16 = search rules in
    sym (length-take-le _ _ (ends_fit _ _ _ _ c.requires.rules_compiled long))

pub explain-requires : goal.explain-requires
explain-requires c =
    let long : length c.args.c.ends ≡ 16 = search rules in
    (may_run _ _ _ _ c.requires.rules_compiled, few_ends _ _ _ _ c.requires.rules_compiled long)

pub returns : goal.returns
unfolding ExplainedIs
returns c = λ rules kept h. answer_explained rules _ kept _ h _ _ _ c.explain.ensures
