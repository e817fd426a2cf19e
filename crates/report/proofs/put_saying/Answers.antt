-- `report::put_saying` meets its contract: what a word of its kind says (Reasons.antt). Assumes nothing.
use Prim.Native.Nat.{◌+◌, ◌/◌, ◌%◌, ◌≤◌}
use native.Mathlib.Omega.{arith}
use lib.ListN.{length}
use Rattle.lists.proofs.Putting.{puts_text, puts_more, fits_next}
use Rattle.report.specs.Lines.{decimal, labelled}
use Rattle.lexer.specs.Text.{bytes}
use Rattle.report.specs.Pieces.{saying, held_at}
use Rattle.report.proofs.Digits.{decimal_few}
use Rattle.report.proofs.Reasons.{says_split, says_rule, says_floorless}
use Rattle.report.proofs.put_saying.Goals as goal

pub put_labelled-end-requires : goal.put_labelled-end-requires
put_labelled-end-requires c =
    let few_digits : length (decimal (c.args.word % 0x10000000)) ≤ 9 = decimal_few 8 (c.args.word % 0x10000000) (omega arith) in
    let few : c.args.at + length (labelled (bytes "rule ") (c.args.word % 0x10000000)) + 14 ≤ length c.args.out.now = omega (arith, c.requires, few_digits) in
    omega (arith, few)

pub put_text-requires : goal.put_text-requires
put_text-requires c =
    let few_digits : length (decimal (c.args.word % 0x10000000)) ≤ 9 = decimal_few 8 (c.args.word % 0x10000000) (omega arith) in
    let few : c.args.at + length (labelled (bytes "rule ") (c.args.word % 0x10000000)) + 14 ≤ length c.args.out.now = omega (arith, c.requires, few_digits) in
    fits_next c.put_labelled-end.ensures 14 few

pub returns-in-5 : goal.returns-in-5
unfolding saying
returns-in-5 c = (puts_text (says_split (held_at c.args.atoms) (c.args.word / 0x10000000) (c.args.word % 0x10000000) c.in-5.is) (puts_more c.put_text-end.ensures c.put_atom.ensures.0), omega (arith, c.put_atom.ensures.1, c.put_text-end.ensures.place))

pub returns-in-6 : goal.returns-in-6
unfolding saying
returns-in-6 c =
    let few_digits : length (decimal (c.args.word % 0x10000000)) ≤ 9 = decimal_few 8 (c.args.word % 0x10000000) (omega arith) in
    (puts_text (says_rule (held_at c.args.atoms) (c.args.word / 0x10000000) (c.args.word % 0x10000000) c.in-6.is) (puts_more c.put_labelled-end.ensures c.put_text.ensures), omega (arith, c.put_text.ensures.place, c.put_labelled-end.ensures.place, few_digits))

pub returns-in_default : goal.returns-in_default
unfolding saying
returns-in_default c = (puts_text (says_floorless (held_at c.args.atoms) (c.args.word / 0x10000000) (c.args.word % 0x10000000) c.in_default.in_default-own.rest.0.1 c.in_default.in_default-own.rest.1) c.put_text-in_default.ensures, omega (arith, c.put_text-in_default.ensures.place))
