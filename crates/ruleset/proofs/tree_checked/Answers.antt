-- `ruleset::tree_checked` meets its contract: the compiled rules may be run, and what `check_tree` answers of them is the verdict by the
-- rules as read (Claims.antt). Assumes nothing.
use mathlib.Core.Path.{◌≡◌, sym}
use borrow.Author.Rules.{rules}
use lib.ListN.{length}
use lib.Seq.{length-take-le}
use Rattle.ruleset.specs.Texts.{VerdictIs}
use Rattle.ruleset.proofs.Claims.{may_run, ends_fit, answer_verdict}
use Rattle.ruleset.proofs.tree_checked.Goals as goal

-- the ends of the rules have their places
pub slice_bounds-ends-end : goal.slice_bounds-ends-end
slice_bounds-ends-end c =
    let long : length c.args.c.ends ≡ 16 = search rules in
    ends_fit _ _ _ _ c.requires.rules_compiled long

pub slice_bounds-check_tree-end : goal.slice_bounds-check_tree-end
slice_bounds-check_tree-end c =
    let long : length c.args.c.ends ≡ 16 = search rules in
    sym (length-take-le _ _ (ends_fit _ _ _ _ c.requires.rules_compiled long))

pub check_tree-requires : goal.check_tree-requires
check_tree-requires c = may_run _ _ _ _ c.requires.rules_compiled

pub returns : goal.returns
unfolding VerdictIs
returns c = λ rules kept h. answer_verdict rules _ kept _ h _ _ c.check_tree.ensures
