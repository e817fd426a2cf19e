-- `report::put_line` meets its contract: what print wrote is the rule's text, or there is no rule at this place (AsRead.antt). Assumes nothing.
use borrow.Enum.Refused.{opened}
use borrow.Rule.Slice.PartMut.{put_mid}
use Prim.Native.Nat.{◌-◌}
use native.Mathlib.Omega.{arith}
use lib.ListN.{length}
use Rattle.lists.proofs.Putting.{puts_text, puts_more, fits_next}
use Rattle.table.specs.Store.{rules_of}
use Rattle.report.proofs.AsRead.{told_no_text, Printing, no_line, Wrote, line_written}
use Rattle.report.proofs.put_line.Goals as goal

pub returns-in_default : goal.returns-in_default
returns-in_default c =
    let printing : Printing c.args.table c.args.i c.args.at c.args.out.now c.print-printed.result c.print-printed.new.buffer = record { from_us = c.requires.0; room = c.requires.2; prints = c.print-printed.ensures } in
    no_line printing (told_no_text _ (opened c.in_default.in_default-own.keys2))

pub overflow_add-at : goal.overflow_add-at
overflow_add-at c =
    let printing : Printing c.args.table c.args.i c.args.at c.args.out.now c.print-printed.result c.print-printed.new.buffer = record { from_us = c.requires.0; room = c.requires.2; prints = c.print-printed.ensures } in
    let wrote : let a = c.args in Wrote (rules_of a.table) a.i a.at a.out.now (put_mid a.at (length a.out.now - a.at) a.out.now c.print-printed.new.buffer) c.in-Text.n = line_written printing _ c.in-Text.is in
    let w = wrote in omega (arith, w.few, w.puts.place)

pub put_byte-requires : goal.put_byte-requires
put_byte-requires c =
    let printing : Printing c.args.table c.args.i c.args.at c.args.out.now c.print-printed.result c.print-printed.new.buffer = record { from_us = c.requires.0; room = c.requires.2; prints = c.print-printed.ensures } in
    let wrote : let a = c.args in Wrote (rules_of a.table) a.i a.at a.out.now (put_mid a.at (length a.out.now - a.at) a.out.now c.print-printed.new.buffer) c.in-Text.n = line_written printing _ c.in-Text.is in
    let w = wrote in fits_next w.puts 1 w.few

pub returns : goal.returns
returns c =
    let printing : Printing c.args.table c.args.i c.args.at c.args.out.now c.print-printed.result c.print-printed.new.buffer = record { from_us = c.requires.0; room = c.requires.2; prints = c.print-printed.ensures } in
    let wrote : let a = c.args in Wrote (rules_of a.table) a.i a.at a.out.now (put_mid a.at (length a.out.now - a.at) a.out.now c.print-printed.new.buffer) c.in-Text.n = line_written printing _ c.in-Text.is in
    let w = wrote in
    puts_text w.line (puts_more w.puts c.put_byte.ensures)
