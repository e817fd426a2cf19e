-- `supportlog::put_refusal` meets its contract: nothing is put where the line is not refused. Assumes nothing.
use borrow.Enum.Refused.{opened}
use native.Mathlib.Omega.{arith}
use mathlib.Core.Logic.{inl, inr}
use Rattle.lists.proofs.Putting.{puts_none, puts_text}
use Rattle.supportlog.proofs.Remarks.{no_remark, without_sign, refused_remark}
use Rattle.supportlog.proofs.put_refusal.Goals as goal
use Rattle.supportlog.proofs.put_refusal.Goals.{then-text-le0, else-text-le0}

pub returns-in_default : goal.returns-in_default
returns-in_default c = let a = c.args in puts_text (no_remark a.number a.line.now _ a.answer (opened c.in_default.in_default-own.keys2)) (puts_none 0 a.out.now (omega arith))

pub slice_bounds-put_remark-count : goal.slice_bounds-put_remark-count
slice_bounds-put_remark-count c = elim c.if-text-le0.branch [
  | then-text-le0 w ↦ omega arith
  | else-text-le0 w ↦ omega arith
]

pub returns : goal.returns
returns c =
    let a = c.args in
    puts_text (refused_remark a.number a.line.now a.text.now _ _ c.caret_at-caret.result c.in-Refused.is c.requires.1 c.form_of-form.ensures c.caret_at-caret.ensures
    (without_sign a.text.now c.if-text-le0.sign (elim c.if-text-le0.branch [ then-text-le0 w ↦ inl (w.if-text-le0.true, w.sign-is) | else-text-le0 w ↦ inr (w.if-text-le0.false, w.sign-is) ]))) c.put_remark.ensures
