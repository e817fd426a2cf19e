-- `supportlog::put_piece` meets its contract: past the end there is no piece, a log of too many bytes has one, and of another the line that ends
-- there, without a byte 13 at its end, is run. Assumes nothing.
use mathlib.Core.Path.{sym, subst}
use Prim.Native.Nat.{◌-◌}
use native.Mathlib.Omega.{arith}
use lib.ListN.{take, drop, length-drop}
use lib.Seq.{length-take-le}
use Rattle.table.specs.Sheet.{Text}
use Rattle.supportlog.specs.Run.{Runs}
use Rattle.supportlog.proofs.Pieces.{gives_none, gives_whole, gives_line}
use Rattle.supportlog.proofs.put_piece.Goals as goal

pub returns-then-log-from : goal.returns-then-log-from
returns-then-log-from c = gives_none c.requires.0 _ (omega arith) c.passed.ensures

pub returns-then-log-gt-LOG : goal.returns-then-log-gt-LOG
returns-then-log-gt-LOG c = gives_whole c.requires.0 (omega arith) _ (omega arith) c.put_refused-len.ensures c.passed-then-log-gt-LOG.ensures

pub slice_bounds-line_by-end : goal.slice_bounds-line_by-end
slice_bounds-line_by-end c = sym (length-take-le _ _ c.kept-n.ensures.0)

pub returns : goal.returns
returns c =
    let a = c.args in
    let found = c.line_end-end in
    let by = c.line_by-lined in
    gives_line c.requires.0 (omega (arith, c.if-log-from.false)) _ (omega (arith, c.if-log-gt-LOG.false))
    (record {
      line = take (found.result - a.state.from) (drop a.state.from a.log.now);
      cut = found.ensures.2;
      runs = subst (λ (l : Text). Runs a.state.table l a.words.now by.result.result by.new.words) c.kept-n.ensures.1 by.ensures.0;
      tally = by.ensures.1;
      next = omega (arith, found.ensures.0, length-take-le (found.result - a.state.from) (drop a.state.from a.log.now) (omega (arith, length-drop a.state.from a.log.now, found.ensures.1)));
    })
    c.put_answer-len.ensures
