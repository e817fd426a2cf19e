-- `supportlog::put_refused` meets its contract: the parts of the line, one after the other. Assumes nothing.
use native.Mathlib.Omega.{arith}
use Rattle.lists.proofs.Putting.{puts_length, puts_more}
use Rattle.supportlog.proofs.Texts.{digits_few}
use borrow.Author.Rules.{rules}
use Rattle.supportlog.proofs.put_refused.Goals as goal

pub put_labelled-end-requires : goal.put_labelled-end-requires
put_labelled-end-requires c =
    omega (arith, c.requires, digits_few c.args.number (search rules))

pub put_labelled-end-requires-2 : goal.put_labelled-end-requires-2
put_labelled-end-requires-2 c =
    let one = c.put_labelled-end.ensures in
    omega (arith, c.requires, digits_few c.args.number (search rules), digits_few c.args.carried (search rules), one.place, puts_length one)

pub put_text-requires : goal.put_text-requires
put_text-requires c =
    let one = c.put_labelled-end.ensures in
    let two = c.put_labelled-end-2.ensures in
    omega (arith, c.requires, digits_few c.args.number (search rules), digits_few c.args.carried (search rules), one.place, puts_length one, two.place, puts_length two)

pub returns : goal.returns
returns c = puts_more (puts_more c.put_labelled-end.ensures c.put_labelled-end-2.ensures) c.put_text.ensures
