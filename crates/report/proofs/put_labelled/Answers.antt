-- `report::put_labelled` meets its contract: the text, then the number. Assumes nothing.
use native.Mathlib.Omega.{arith}
use lib.ListN.{length-append}
use Rattle.lists.proofs.Putting.{fits_next, puts_more}
use Rattle.report.proofs.put_labelled.Goals as goal

pub put_text-end-requires : goal.put_text-end-requires
put_text-end-requires c = omega (arith, simp length-append at c.requires)

pub put_number-requires : goal.put_number-requires
put_number-requires c = fits_next c.put_text-end.ensures _ (omega (arith, simp length-append at c.requires))

pub returns : goal.returns
returns c = puts_more c.put_text-end.ensures c.put_number.ensures
