-- `report::put_atom_text` meets its contract: as many bytes as its length, or all. Assumes nothing.
use mathlib.Core.Path.{◌≡◌, sym}
use native.Mathlib.Omega.{arith}
use lib.ListN.{length, length-take}
use lib.Seq.{take_all, length-take-le}
use Rattle.lists.proofs.Putting.{puts_text}
use Rattle.report.specs.Pieces.{held}
use Rattle.report.proofs.put_atom_text.Goals as goal

pub slice_bounds-bytes-end : goal.slice_bounds-bytes-end
slice_bounds-bytes-end c =
    let long : length c.args.text.bytes ≡ 256 = c.well_formed.0.1.1.0.1.0.1 in
    omega (arith, c.if-len-lt256.true, long)

pub slice_bounds-put_text-end : goal.slice_bounds-put_text-end
slice_bounds-put_text-end c =
    let long : length c.args.text.bytes ≡ 256 = c.well_formed.0.1.1.0.1.0.1 in
    sym (length-take-le _ _ (omega (arith, c.if-len-lt256.true, long)))

pub put_text-requires : goal.put_text-requires
put_text-requires c = omega (arith, c.requires, length-take c.args.text.len c.args.text.bytes, c.if-len-lt256.true)

pub returns-then-len-lt256 : goal.returns-then-len-lt256
unfolding held
returns-then-len-lt256 c =
    let long : length c.args.text.bytes ≡ 256 = c.well_formed.0.1.1.0.1.0.1 in
    (c.put_text.ensures, omega (arith, c.put_text.ensures.place, length-take c.args.text.len c.args.text.bytes, long))

pub put_text-requires-2 : goal.put_text-requires-2
put_text-requires-2 c =
    let long : length c.args.text.bytes ≡ 256 = c.well_formed.0.1.1.0.1.0.1 in
    omega (arith, c.requires, long)

pub returns : goal.returns
unfolding held
returns c =
    let long : length c.args.text.bytes ≡ 256 = c.well_formed.0.1.1.0.1.0.1 in
    (puts_text (sym (take_all c.args.text.len c.args.text.bytes (omega (arith, long, c.if-len-lt256.false)))) c.put_text-2.ensures, omega (arith, c.put_text-2.ensures.place, long))
