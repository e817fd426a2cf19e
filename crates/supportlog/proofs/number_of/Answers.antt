-- `supportlog::number_of` meets its contract: the number so far, with the digits that are left behind it, is the whole number. Assumes nothing.
use mathlib.Core.Path.{sym, ◌∙◌}
use native.Mathlib.Omega.{arith}
use Rattle.supportlog.proofs.Numbers.{turn_start, turn_stop, turn_next, turn_small, turn_end}
use Rattle.supportlog.proofs.number_of.Goals as goal

pub loop-d-init : goal.loop-d-init
loop-d-init c = (omega arith, turn_start c.args.digits.now)

pub returns-then-n-eq0 : goal.returns-then-n-eq0
returns-then-n-eq0 c =
    let ds = c.args.digits.now in
    let k = c.loop-d in
    sym (turn_stop ds k.n k.d-index _ (omega arith) c.with_digit-n.ensures c.if-n-eq0.true) ∙ k.invariant.1

pub loop-d-preserved : goal.loop-d-preserved
loop-d-preserved c =
    let ds = c.args.digits.now in
    let k = c.loop-d in (
      turn_small ds k.n k.d-index _ (omega arith) c.with_digit-n.ensures c.if-n-eq0.false,
      turn_next ds k.n k.d-index _ (omega arith) c.with_digit-n.ensures c.if-n-eq0.false ∙ k.invariant.1,
    )

pub returns : goal.returns
returns c =
    let k = c.loop-d in
    turn_end c.args.digits.now k.n k.d-index (omega arith) ∙ k.invariant.1
