-- `remarks::can_stand` meets its contract: what is put is read. Assumes nothing.
use mathlib.Core.Path.{sym, ◌∙◌}
use native.Mathlib.Omega.{arith}
use lib.Seq.{length-take-le}
use Rattle.lists.proofs.Putting.{puts_more, puts_length}
use Rattle.remarks.proofs.Parts.{never_long, read_on}
use Rattle.remarks.proofs.can_stand.Goals as goal

pub returns-then-before-gt-RULE : goal.returns-then-before-gt-RULE
returns-then-before-gt-RULE c = let a = c.args in sym (never_long a.text.now a.place a.next.now (omega (arith, c.within-before.ensures.0, c.if-before-gt-RULE.true)))

pub slice_bounds-put_text-end : goal.slice_bounds-put_text-end
slice_bounds-put_text-end c = sym (length-take-le _ _ c.within-before.ensures.1)

pub put_text-end-requires : goal.put_text-end-requires
put_text-end-requires c = omega (arith, length-take-le c.within-before.result c.args.text.now c.within-before.ensures.1, c.if-before-gt-RULE.false, c.no_text-whole.ensures.result_len)

pub put_text-end-requires-2 : goal.put_text-end-requires-2
put_text-end-requires-2 c = omega (arith, c.put_text-end.ensures.place, puts_length c.put_text-end.ensures, length-take-le c.within-before.result c.args.text.now c.within-before.ensures.1, c.if-before-gt-RULE.false, c.no_text-whole.ensures.result_len)

pub put_text-end-requires-3 : goal.put_text-end-requires-3
put_text-end-requires-3 c =
    let one = c.put_text-end.ensures in
    let two = c.put_text-end-2.ensures in
    omega (arith, one.place, puts_length one, two.place, puts_length two, length-take-le c.within-before.result c.args.text.now c.within-before.ensures.1, c.if-before-gt-RULE.false, c.no_text-whole.ensures.result_len, c.requires)

pub slice_bounds-read_rule-end : goal.slice_bounds-read_rule-end
slice_bounds-read_rule-end c = sym (length-take-le _ _ (omega (arith, c.put_text-end-3.ensures.place, c.put_text-end-3.ensures.fits, puts_length c.put_text-end-3.ensures)))

pub returns : goal.returns
returns c =
    let a = c.args in
    c.is_begun.ensures ∙ read_on a.text.now a.place c.within-before.result a.next.now c.within-before.ensures.0 (puts_more (puts_more c.put_text-end.ensures c.put_text-end-2.ensures) c.put_text-end-3.ensures) c.read_rule-rule.ensures
