-- `clashes::put_rule` meets its contract: the parts of the line, one after the other. Assumes nothing.
use native.Mathlib.Omega.{arith}
use Rattle.lists.proofs.Putting.{puts_length, puts_more}
use Rattle.table.specs.Store.{rules_of}
use Rattle.clashes.proofs.Lines.{rule_few, digits_few}
use borrow.Author.Rules.{rules}
use Rattle.clashes.proofs.put_rule.Goals as goal

pub put_labelled-end-requires : goal.put_labelled-end-requires
put_labelled-end-requires c =
    omega (arith, c.requires.2, digits_few c.args.number (search rules))

pub put_text-end-requires : goal.put_text-end-requires
put_text-end-requires c =
    let one = c.put_labelled-end.ensures in
    omega (arith, c.requires.2, digits_few c.args.number (search rules), one.place, puts_length one)

pub put_line-requires : goal.put_line-requires
put_line-requires c =
    let one = c.put_labelled-end.ensures in
    let two = c.put_text-end.ensures in
    (c.requires.0, c.requires.1, omega (arith, c.requires.2, digits_few c.args.number (search rules), one.place, puts_length one, two.place, puts_length two))

pub returns : goal.returns
returns c =
    let one = c.put_labelled-end.ensures in
    let two = c.put_text-end.ensures in
    let three = c.put_line.ensures in
    (puts_more one (puts_more two three), omega (arith, digits_few c.args.number (search rules), one.place, two.place, three.place, rule_few (rules_of c.args.table) c.args.i c.requires.0.standing))
