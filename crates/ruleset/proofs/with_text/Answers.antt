-- `ruleset::with_text` meets its contract: the rule that is read is known behind the rules before it, and its code stands behind theirs
-- (Adding.antt). Assumes nothing.
use mathlib.Core.Path.{◌≡◌}
use native.Mathlib.Omega.{arith}
use lib.ListN.{length}
use borrow.Author.Rules.{rules}
use Rattle.ruleset.specs.Texts.{WithText}
use Rattle.ruleset.proofs.Adding.{place_free, one_more, room_found, length_now, compiled_now}
use Rattle.ruleset.proofs.with_text.Goals as goal

pub last_end-from-requires : goal.last_end-from-requires
last_end-from-requires c = omega (arith, place_free _ _ _ _ _ _ c.requires.another)

pub with_rule-requires : goal.with_rule-requires
with_rule-requires c =
    let pre = c.requires in
    record {
      rules = pre.rules;
      formula = pre.formula;
      one_more = one_more _ _ _ _ _ _ pre.another _ c.read_rule-rule.ensures _ c.last_end-from.ensures;
    }

-- there is room for the rule, so it grew
pub unwrap-grown-requires : goal.unwrap-grown-requires
unwrap-grown-requires c =
    let pre = c.requires in
    room_found _ _ _ _ _ _ pre.another _ c.read_rule-rule.ensures _ c.last_end-from.ensures _ _ _ c.with_rule.ensures

pub offset_bounds-ends-count : goal.offset_bounds-ends-count
offset_bounds-ends-count c = omega (arith, place_free _ _ _ _ _ _ c.requires.another)

pub bounds-ends-count : goal.bounds-ends-count
bounds-ends-count c = place_free _ _ _ _ _ _ c.requires.another

pub shape_of-code : goal.shape_of-code
shape_of-code c =
    let pre = c.requires in
    let order_long : length c.read_rule-rule.result.order ≡ 256 = search rules in
    let ends_long : length c.args.c.ends ≡ 16 = search rules in
    length_now _ _ _ _ pre.rules pre.formula pre.another _ c.read_rule-rule.ensures _ c.last_end-from.ensures order_long _ _ _ c.with_rule.ensures ends_long _ c.unwrap-grown.ensures

pub returns : goal.returns
unfolding WithText
returns c =
    let pre = c.requires in
    let order_long : length c.read_rule-rule.result.order ≡ 256 = search rules in
    let ends_long : length c.args.c.ends ≡ 16 = search rules in (
      λ rules f a. compiled_now _ _ _ _ rules f a _ c.read_rule-rule.ensures _ c.last_end-from.ensures order_long _ _ _ c.with_rule.ensures ends_long _ c.unwrap-grown.ensures,
      length_now _ _ _ _ pre.rules pre.formula pre.another _ c.read_rule-rule.ensures _ c.last_end-from.ensures order_long _ _ _ c.with_rule.ensures ends_long _ c.unwrap-grown.ensures,
    )
