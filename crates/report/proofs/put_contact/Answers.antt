-- `report::put_contact` meets its contract: the parts of the line, one after the other. Assumes nothing.
use mathlib.Core.Path.{sym, ap}
use mathlib.Core.List.{◌++◌}
use Prim.Native.Nat.{◌+◌, ◌≤◌}
use native.Mathlib.Omega.{arith}
use lib.ListN.{length, length-append}
use Rattle.lists.proofs.Putting.{puts_text, fits_next, puts_more}
use Rattle.lexer.specs.Text.{bytes}
use Rattle.report.specs.Lines.{labelled, ended}
use Rattle.report.proofs.Parts.{contact_text}
use Rattle.report.proofs.put_contact.Goals as goal

pub put_labelled-end-requires : goal.put_labelled-end-requires
put_labelled-end-requires c =
    let fits : c.args.at + length (ended (labelled (bytes "contact ") c.args.i ++ labelled (bytes " ") c.args.j)) ≤ length c.args.out.now = omega (arith, c.requires.1, ap length (contact_text c.args.i c.args.j c.requires.0)) in
    simp length-append (omega (arith, simp length-append at fits))

pub put_labelled-end-requires-2 : goal.put_labelled-end-requires-2
put_labelled-end-requires-2 c =
    let fits : c.args.at + length (ended (labelled (bytes "contact ") c.args.i ++ labelled (bytes " ") c.args.j)) ≤ length c.args.out.now = omega (arith, c.requires.1, ap length (contact_text c.args.i c.args.j c.requires.0)) in
    fits_next c.put_labelled-end.ensures _ (simp length-append (omega (arith, simp length-append at fits)))

pub put_byte-requires : goal.put_byte-requires
put_byte-requires c =
    let fits : c.args.at + length (ended (labelled (bytes "contact ") c.args.i ++ labelled (bytes " ") c.args.j)) ≤ length c.args.out.now = omega (arith, c.requires.1, ap length (contact_text c.args.i c.args.j c.requires.0)) in
    fits_next (puts_more c.put_labelled-end.ensures c.put_labelled-end-2.ensures) _ (simp length-append (omega (arith, simp length-append at fits)))

pub returns : goal.returns
returns c =
    puts_text (sym (contact_text c.args.i c.args.j c.requires.0))
    (puts_more (puts_more c.put_labelled-end.ensures c.put_labelled-end-2.ensures) c.put_byte.ensures)
