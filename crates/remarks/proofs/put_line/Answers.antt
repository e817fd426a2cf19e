-- `remarks::put_line` meets its contract: the line is the one with this number, and nothing is put where it is not refused. Assumes nothing.
use borrow.Enum.Refused.{opened}
use mathlib.Core.Path.{sym, ap, ◌∙◌}
use native.Mathlib.Omega.{arith}
use lib.Seq.{length-take-le}
use Rattle.lists.proofs.Putting.{puts_none, puts_text}
use Rattle.remarks.specs.Remark.{line_remark}
use Rattle.remarks.proofs.Parts.{no_remark, found, refused_line}
use Rattle.remarks.proofs.put_line.Goals as goal

pub returns-in_default : goal.returns-in_default
returns-in_default c =
    let a = c.args in
    puts_text (no_remark a.number _ c.add_outcome-outcome.result (opened c.in_default.in_default-own.keys2) ∙ ap (line_remark a.number _) c.add_outcome-outcome.ensures) (puts_none 0 a.out.now (omega arith))

pub slice_bounds-line-end : goal.slice_bounds-line-end
slice_bounds-line-end c = sym (length-take-le _ _ c.line_length-len.ensures.0)

pub returns : goal.returns
returns c =
    let a = c.args in
    let start = c.line_start-from in
    let len = c.line_length-len in
    puts_text (refused_line a.number _ _ (found a.sheet.now a.number start.result len.result start.ensures.1 len.ensures.1) (sym c.add_outcome-outcome.ensures ∙ c.in-Refused.is)) c.put_remark.ensures
