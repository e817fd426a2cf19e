-- `remarks::put_remark` meets its contract: the parts one after the other, which have room. Assumes nothing.
use Prim.Native.Nat.{ℕ, ◌+◌, ◌-◌}
use native.Mathlib.Omega.{arith}
use lib.ListN.{length-replicate}
use Rattle.lists.proofs.Putting.{puts_length, puts_text, puts_more}
use Rattle.remarks.proofs.Parts.{lines_put}
use Rattle.remarks.proofs.put_remark.Goals as goal

pub put_said-requires : goal.put_said-requires
put_said-requires c =
    let one = c.put_leading-lead.ensures in
    let two = c.put_part-end.ensures in
    let three = c.put_blanks-end.ensures in
    omega (arith, c.requires, c.shown_from-from.ensures.2, one.1, puts_length one.0, two.1, puts_length two.0, three.place, puts_length three, length-replicate {A = ℕ} (c.put_leading-lead.result + (c.within-caret.result - c.shown_from-from.result)) 32)

pub returns : goal.returns
returns c =
    let a = c.args in
    let one = c.put_leading-lead.ensures in
    puts_text (lines_put a.number a.line.now a.caret a.refusal _ c.within-caret.result c.shown_from-from.result c.put_leading-lead.result c.within-caret.ensures.0 c.shown_from-from.ensures.0 (omega (arith, one.0.place)))
    (puts_more (puts_more (puts_more one.0 c.put_part-end.ensures.0) c.put_blanks-end.ensures) c.put_said.ensures)
