-- `remarks::put_said` meets its contract: the parts one after the other. Assumes nothing.
use native.Mathlib.Omega.{arith}
use Rattle.lists.proofs.Putting.{puts_length, puts_more}
use Rattle.remarks.specs.Remark.{said}
use Rattle.remarks.proofs.Parts.{digits_few}
use borrow.Author.Rules.{rules}
use Rattle.remarks.proofs.put_said.Goals as goal

pub put_labelled-end-requires : goal.put_labelled-end-requires
put_labelled-end-requires c =
    let one = c.put_text-end.ensures in
    let two = c.put_sentence-end.ensures in
    omega (arith, c.requires, digits_few c.args.refusal (search rules), one.place, puts_length one, two.1, puts_length two.0)

pub put_text-requires : goal.put_text-requires
put_text-requires c =
    let one = c.put_text-end.ensures in
    let two = c.put_sentence-end.ensures in
    let three = c.put_labelled-end.ensures in
    omega (arith, c.requires, digits_few c.args.refusal (search rules), one.place, puts_length one, two.1, puts_length two.0, three.place, puts_length three)

pub returns : goal.returns
unfolding said
returns c = puts_more (puts_more (puts_more c.put_text-end.ensures c.put_sentence-end.ensures.0) c.put_labelled-end.ensures) c.put_text.ensures
