-- `report::put_reason` meets its contract: the parts of the line, one after the other. Assumes nothing.
use native.Mathlib.Omega.{arith}
use Rattle.lists.proofs.Putting.{puts_length, puts_more, fits_next}
use Rattle.report.specs.Lines.{indented}
use Rattle.report.proofs.Reasons.{margin_few}
use Rattle.report.proofs.put_reason.Goals as goal

pub put_margin-end-requires : goal.put_margin-end-requires
put_margin-end-requires c = omega (arith, margin_few c.args.depth)

pub put_saying-end-requires : goal.put_saying-end-requires
put_saying-end-requires c = fits_next c.put_margin-end.ensures 266 (omega (arith, c.requires, margin_few c.args.depth))

pub put_byte-requires : goal.put_byte-requires
put_byte-requires c =
    omega (arith, c.requires, margin_few c.args.depth, c.put_margin-end.ensures.place, puts_length c.put_margin-end.ensures, c.put_saying-end.ensures.1, puts_length c.put_saying-end.ensures.0)

pub returns : goal.returns
unfolding indented
returns c = puts_more c.put_margin-end.ensures (puts_more c.put_saying-end.ensures.0 c.put_byte.ensures)
