-- `ruleset::row_of` meets its contract: the compiled rules may be run, and what `first_row` answers of them is the first row of the rules
-- (Claims.antt). Assumes nothing.
use mathlib.Core.Path.{◌≡◌, sym}
use borrow.Author.Rules.{rules}
use lib.ListN.{length}
use lib.Seq.{length-take-le}
use Rattle.ruleset.specs.Texts.{FirstRowIs}
use Rattle.ruleset.proofs.Claims.{may_run, ends_fit, answer_first_row}
use Rattle.ruleset.proofs.row_of.Goals as goal

-- the ends of the rules have their places
pub slice_bounds-ends-end : goal.slice_bounds-ends-end
slice_bounds-ends-end c =
    let long : length c.args.c.ends ≡ 16 = search rules in
    ends_fit _ _ _ _ c.requires.rules_compiled long

pub slice_bounds-first_row-end : goal.slice_bounds-first_row-end
slice_bounds-first_row-end c =
    let long : length c.args.c.ends ≡ 16 = search rules in
    sym (length-take-le _ _ (ends_fit _ _ _ _ c.requires.rules_compiled long))

pub first_row-requires : goal.first_row-requires
first_row-requires c = may_run _ _ _ _ c.requires.rules_compiled

pub returns : goal.returns
unfolding FirstRowIs
returns c = λ rules kept h. answer_first_row rules _ kept _ h _ _ c.first_row.ensures
