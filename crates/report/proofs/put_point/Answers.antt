-- `report::put_point` meets its contract: the parts of the line, one after the other. Assumes nothing.
use Prim.Native.Nat.{◌^◌, ◌≤◌, ◌<◌}
use native.Mathlib.Omega.{arith}
use lib.ListN.{length}
use Rattle.lists.proofs.Putting.{puts_length, puts_more}
use Rattle.report.specs.Lines.{decimal, point_line}
use Rattle.report.proofs.Digits.{decimal_few}
use borrow.Author.Rules.{rules}
use Rattle.report.proofs.put_point.Goals as goal

pub put_labelled-end-requires : goal.put_labelled-end-requires
put_labelled-end-requires c =
    let few : length (decimal c.args.i) ≤ 20 = let h : c.args.i < 2 ^ 64 = search rules in decimal_few 19 c.args.i (omega arith) in
    omega (arith, c.requires, few)

pub put_text-end-requires : goal.put_text-end-requires
put_text-end-requires c =
    let few : length (decimal c.args.i) ≤ 20 = let h : c.args.i < 2 ^ 64 = search rules in decimal_few 19 c.args.i (omega arith) in
    let first = c.put_labelled-end.ensures in omega (arith, c.requires, few, first.place, puts_length first)

pub put_point_names-end-requires : goal.put_point_names-end-requires
put_point_names-end-requires c =
    let few : length (decimal c.args.i) ≤ 20 = let h : c.args.i < 2 ^ 64 = search rules in decimal_few 19 c.args.i (omega arith) in
    let first = c.put_labelled-end.ensures in
    let second = c.put_text-end.ensures in
    omega (arith, c.requires, few, first.place, puts_length first, second.place, puts_length second)

pub put_text-requires : goal.put_text-requires
put_text-requires c =
    let few : length (decimal c.args.i) ≤ 20 = let h : c.args.i < 2 ^ 64 = search rules in decimal_few 19 c.args.i (omega arith) in
    let first = c.put_labelled-end.ensures in
    let second = c.put_text-end.ensures in
    let third = c.put_point_names-end.ensures in
    omega (arith, c.requires, few, first.place, puts_length first, second.place, puts_length second, third.1, puts_length third.0)

pub returns : goal.returns
unfolding point_line
returns c = puts_more (puts_more (puts_more c.put_labelled-end.ensures c.put_text-end.ensures) c.put_point_names-end.ensures.0) c.put_text.ensures
