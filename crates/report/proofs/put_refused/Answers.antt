-- `report::put_refused` meets its contract: the parts of the line, one after the other. Assumes nothing.
use Prim.Native.Nat.{◌+◌, ◌≤◌}
use native.Mathlib.Omega.{arith}
use lib.ListN.{length, length-append}
use Rattle.lists.proofs.Putting.{fits_next, puts_more}
use Rattle.report.specs.Lines.{refused_text}
use Rattle.report.proofs.Bounds.{refused_few}
use borrow.Author.Rules.{rules}
use Rattle.report.proofs.put_refused.Goals as goal

pub put_labelled-end-requires : goal.put_labelled-end-requires
unfolding refused_text
put_labelled-end-requires c =
    let fits : c.args.at + length (refused_text c.args.number c.args.line c.args.place) ≤ length c.args.out.now = let a = c.args in omega (arith, c.requires, refused_few a.number a.line a.place (search rules) (search rules) (search rules)) in
    simp length-append (omega (arith, simp length-append at fits))

pub put_labelled-end-requires-2 : goal.put_labelled-end-requires-2
unfolding refused_text
put_labelled-end-requires-2 c =
    let fits : c.args.at + length (refused_text c.args.number c.args.line c.args.place) ≤ length c.args.out.now = let a = c.args in omega (arith, c.requires, refused_few a.number a.line a.place (search rules) (search rules) (search rules)) in
    fits_next c.put_labelled-end.ensures _ (simp length-append (omega (arith, simp length-append at fits)))

pub put_labelled-end-requires-3 : goal.put_labelled-end-requires-3
unfolding refused_text
put_labelled-end-requires-3 c =
    let fits : c.args.at + length (refused_text c.args.number c.args.line c.args.place) ≤ length c.args.out.now = let a = c.args in omega (arith, c.requires, refused_few a.number a.line a.place (search rules) (search rules) (search rules)) in
    fits_next (puts_more c.put_labelled-end.ensures c.put_labelled-end-2.ensures) _ (simp length-append (omega (arith, simp length-append at fits)))

pub put_byte-requires : goal.put_byte-requires
unfolding refused_text
put_byte-requires c =
    let fits : c.args.at + length (refused_text c.args.number c.args.line c.args.place) ≤ length c.args.out.now = let a = c.args in omega (arith, c.requires, refused_few a.number a.line a.place (search rules) (search rules) (search rules)) in
    fits_next (puts_more (puts_more c.put_labelled-end.ensures c.put_labelled-end-2.ensures) c.put_labelled-end-3.ensures) _ (simp length-append (omega (arith, simp length-append at fits)))

pub returns : goal.returns
unfolding refused_text
returns c =
    puts_more (puts_more (puts_more c.put_labelled-end.ensures c.put_labelled-end-2.ensures) c.put_labelled-end-3.ensures) c.put_byte.ensures
