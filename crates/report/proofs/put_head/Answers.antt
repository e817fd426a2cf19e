-- `report::put_head` meets its contract: the parts of the line, one after the other. Assumes nothing.
use lib.ListN.{length-append}
use native.Mathlib.Omega.{arith}
use Rattle.lists.proofs.Putting.{fits_next, puts_more}
use Rattle.report.specs.Lines.{head_line}
use Rattle.report.proofs.put_head.Goals as goal

pub put_labelled-end-requires : goal.put_labelled-end-requires
unfolding head_line
put_labelled-end-requires c = simp length-append (omega (arith, simp length-append at c.requires))

pub put_labelled-end-requires-2 : goal.put_labelled-end-requires-2
unfolding head_line
put_labelled-end-requires-2 c = fits_next c.put_labelled-end.ensures _ (simp length-append (omega (arith, simp length-append at c.requires)))

pub put_byte-requires : goal.put_byte-requires
unfolding head_line
put_byte-requires c = fits_next (puts_more c.put_labelled-end.ensures c.put_labelled-end-2.ensures) _ (simp length-append (omega (arith, simp length-append at c.requires)))

pub returns : goal.returns
unfolding head_line
returns c = puts_more (puts_more c.put_labelled-end.ensures c.put_labelled-end-2.ensures) c.put_byte.ensures
