-- `remarks::put_grammar` meets its contract: by the place, and with what is expected there. Assumes nothing.
use native.Mathlib.Omega.{arith}
use Rattle.lists.proofs.Putting.{puts_text, puts_more}
use Rattle.remarks.proofs.Parts.{ends_early, cannot_stand}
use Rattle.remarks.proofs.put_grammar.Goals as goal

pub returns-then-text-place : goal.returns-then-text-place
returns-then-text-place c =
    let a = c.args in
    let one = c.put_text-end.ensures in
    let two = c.put_about.ensures in
    (puts_text (ends_early a.text.now a.place c.expected_at-expected.ensures c.if-text-place.true) (puts_more one two.0), omega (arith, one.place, two.1))

pub returns : goal.returns
returns c =
    let a = c.args in
    let one = c.put_text-end-2.ensures in
    let two = c.put_about-2.ensures in
    (puts_text (cannot_stand a.text.now a.place c.expected_at-expected.ensures c.if-text-place.false) (puts_more one two.0), omega (arith, one.place, two.1))
