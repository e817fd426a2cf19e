-- `ruleset::first_writing` meets its contract: the first sign of the atom stands where the atom is written first (Writings.antt). Assumes
-- nothing.
use mathlib.Core.Path.{◌≡◌, refl, sym, ap, subst, ◌∙◌}
use borrow.Author.Rules.{rules}
use lib.ListN.{length}
use lib.Seq.{length-take-le}
use Rattle.std.specs.Option.{is_some}
use Rattle.std.proofs.lemmas.Option.{same_Some}
use Rattle.ruleset.specs.Places.{Writing, WritingIs}
use Rattle.ruleset.proofs.Claims.{may_run, ends_fit, answer_writing}
use Rattle.ruleset.proofs.first_writing.Goals as goal

-- the ends of the rules have their places
pub slice_bounds-ends-end : goal.slice_bounds-ends-end
slice_bounds-ends-end c =
    let long : length c.args.c.ends ≡ 16 = search rules in
    ends_fit _ _ _ _ c.requires.0.rules_compiled long

pub slice_bounds-sign_place-end : goal.slice_bounds-sign_place-end
slice_bounds-sign_place-end c =
    let long : length c.args.c.ends ≡ 16 = search rules in
    sym (length-take-le _ _ (ends_fit _ _ _ _ c.requires.0.rules_compiled long))

pub sign_place-requires : goal.sign_place-requires
sign_place-requires c = (may_run _ _ _ _ c.requires.0.rules_compiled).safe

pub unwrap-requires : goal.unwrap-requires
unwrap-requires c =
    let w = c.requires.0 in
    let found = answer_writing w.rules _ w.kept _ w.rules_compiled c.args.i c.requires.1 _ refl _ c.sign_place.ensures in
    ap is_some found.1

pub returns : goal.returns
unfolding WritingIs
returns c = λ rules kept h.
    let found = answer_writing rules _ kept _ h c.args.i c.requires.1 _ refl _ c.sign_place.ensures in
    subst (Writing rules c.args.i) (same_Some _ _ (sym found.1 ∙ c.unwrap.ensures)) found.2
