-- `supportlog::put_remark` meets its contract: past the end there is no remark, a log of too many bytes has one, and of another the next line is
-- run. Assumes nothing.
use mathlib.Core.Path.{sym}
use Prim.Native.Nat.{◌-◌}
use native.Mathlib.Omega.{arith}
use lib.ListN.{take, drop}
use lib.Seq.{length-take-le}
use Rattle.lists.proofs.Putting.{puts_none, puts_text}
use Rattle.table.specs.Store.{rules_of}
use Rattle.supportlog.proofs.Remarks.{past_end, too_long, line_run}
use Rattle.supportlog.proofs.put_remark.Goals as goal

pub returns-then-log-from : goal.returns-then-log-from
returns-then-log-from c = let a = c.args in puts_text (past_end a.log.now (rules_of a.state.table) a.state.from a.number (omega arith)) (puts_none 0 a.out.now (omega arith))

pub returns-then-log-gt-LOG : goal.returns-then-log-gt-LOG
returns-then-log-gt-LOG c = let a = c.args in puts_text (too_long a.log.now (rules_of a.state.table) a.state.from a.number c.line_end-end.ensures.2 c.if-log-gt-LOG.true) c.put_text.ensures

pub slice_bounds-run_line-end : goal.slice_bounds-run_line-end
slice_bounds-run_line-end c = sym (length-take-le _ _ c.kept-n.ensures.0)

pub slice_bounds-put_refusal-end : goal.slice_bounds-put_refusal-end
slice_bounds-put_refusal-end c = sym (length-take-le _ _ c.kept-n.ensures.0)

pub returns : goal.returns
returns c =
    let a = c.args in
    puts_text (line_run a.log.now (rules_of a.state.table) a.state.from a.number c.line_end-end.ensures.2 (omega (arith, c.if-log-gt-LOG.false)) (take c.kept-n.result (take (c.line_end-end.result - a.state.from) (drop a.state.from a.log.now))) c.no_words-words.result c.kept-n.ensures.1 c.no_words-words.ensures c.run_line-result.ensures.answer) c.put_refusal.ensures
