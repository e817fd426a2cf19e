-- `remarks::put_leading` meets its contract: the parts one after the other. Assumes nothing.
use native.Mathlib.Omega.{arith}
use Rattle.lists.proofs.Putting.{puts_length, puts_more}
use Rattle.remarks.specs.Remark.{leading}
use Rattle.remarks.proofs.Parts.{digits_few}
use borrow.Author.Rules.{rules}
use Rattle.remarks.proofs.put_leading.Goals as goal

pub put_labelled-end-requires : goal.put_labelled-end-requires
put_labelled-end-requires c =
    omega (arith, c.requires, digits_few c.args.number (search rules))

pub put_text-end-requires : goal.put_text-end-requires
put_text-end-requires c =
    let one = c.put_labelled-end.ensures in
    omega (arith, c.requires, digits_few c.args.number (search rules), one.place, puts_length one)

pub put_dots-requires : goal.put_dots-requires
put_dots-requires c =
    let one = c.put_labelled-end.ensures in
    let two = c.put_text-end.ensures in
    omega (arith, c.requires, digits_few c.args.number (search rules), one.place, puts_length one, two.place, puts_length two)

pub returns : goal.returns
unfolding leading
returns c =
    let one = c.put_labelled-end.ensures in
    let two = c.put_text-end.ensures in
    let three = c.put_dots.ensures in
    (puts_more (puts_more one two) three.0, omega (arith, digits_few c.args.number (search rules), one.place, two.place, three.1))
