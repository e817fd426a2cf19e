-- `remarks::put_part` meets its contract: the parts one after the other. Assumes nothing.
use mathlib.Core.Path.{sym}
use native.Mathlib.Omega.{arith}
use lib.Seq.{length-take-le}
use Rattle.lists.proofs.Putting.{puts_length, puts_text, puts_more}
use Rattle.remarks.proofs.Parts.{shown_within, shown_few}
use Rattle.remarks.proofs.put_part.Goals as goal

pub slice_bounds-put_shown-end : goal.slice_bounds-put_shown-end
slice_bounds-put_shown-end c = sym (length-take-le _ _ c.within-n.ensures.1)

pub put_shown-end-requires : goal.put_shown-end-requires
put_shown-end-requires c = omega (arith, c.requires, c.within-n.ensures.0, length-take-le c.within-n.result c.args.rest.now c.within-n.ensures.1)

pub put_dots-end-requires : goal.put_dots-end-requires
put_dots-end-requires c = omega (arith, c.requires, shown_few c.args.rest.now c.within-n.result c.within-n.ensures.0, c.put_shown-end.ensures.place, puts_length c.put_shown-end.ensures)

pub put_text-requires : goal.put_text-requires
put_text-requires c =
    let one = c.put_shown-end.ensures in
    let two = c.put_dots-end.ensures in
    omega (arith, c.requires, shown_few c.args.rest.now c.within-n.result c.within-n.ensures.0, one.place, puts_length one, two.1, puts_length two.0)

pub returns : goal.returns
returns c =
    let rest = c.args.rest.now in
    let one = c.put_shown-end.ensures in
    let two = c.put_dots-end.ensures in
    let three = c.put_text.ensures in
    (puts_text (shown_within rest c.within-n.result c.within-n.ensures.0) (puts_more (puts_more one two.0) three), omega (arith, shown_few rest c.within-n.result c.within-n.ensures.0, one.place, two.1, three.place))
