-- `report::put_name` meets its contract: a blank, then as many of the bytes as the length says, or all. Assumes nothing.
use mathlib.Core.Path.{◌≡◌, sym}
use native.Mathlib.Omega.{arith}
use lib.ListN.{length, length-take}
use lib.Seq.{take_all}
use Rattle.lists.proofs.Putting.{puts_text, puts_length, puts_more}
use Rattle.report.proofs.put_name.Goals as goal

pub slice_bounds-bytes-end : goal.slice_bounds-bytes-end
slice_bounds-bytes-end c =
    let long : length c.args.name.bytes ≡ 16 = c.well_formed.0.1.1.0.1.0.1 in
    omega (arith, c.if-len-lt16.true, long)

pub put_text-requires : goal.put_text-requires
put_text-requires c = let first = c.put_text-end.ensures in omega (arith, c.requires, first.place, puts_length first, length-take c.args.name.len c.args.name.bytes, c.if-len-lt16.true)

pub returns-then-len-lt16 : goal.returns-then-len-lt16
returns-then-len-lt16 c =
    let first = c.put_text-end.ensures in
    let second = c.put_text.ensures in
    (puts_more first second, omega (arith, first.place, second.place, length-take c.args.name.len c.args.name.bytes, c.if-len-lt16.true))

pub put_text-requires-2 : goal.put_text-requires-2
put_text-requires-2 c =
    let long : length c.args.name.bytes ≡ 16 = c.well_formed.0.1.1.0.1.0.1 in
    let first = c.put_text-end.ensures in omega (arith, c.requires, first.place, puts_length first, long)

pub returns : goal.returns
returns c =
    let long : length c.args.name.bytes ≡ 16 = c.well_formed.0.1.1.0.1.0.1 in
    let first = c.put_text-end.ensures in
    let second = c.put_text-2.ensures in
    (puts_more first (puts_text (sym (take_all c.args.name.len c.args.name.bytes (omega (arith, long, c.if-len-lt16.false)))) second), omega (arith, first.place, second.place, long))
