-- `remarks::put_dots` meets its contract, branch by branch. Assumes nothing.
use mathlib.Core.Path.{sym, ap}
use native.Mathlib.Omega.{arith}
use Rattle.lists.proofs.Putting.{puts_none, puts_text}
use Rattle.remarks.specs.Remark.{dots}
use Rattle.remarks.proofs.put_dots.Goals as goal

pub returns-then-cut : goal.returns-then-cut
returns-then-cut c = (puts_text (sym (ap dots c.if-cut.true)) c.put_text.ensures, omega (arith, c.put_text.ensures.place))

pub returns : goal.returns
returns c =
    let a = c.args in
    (puts_text (sym (ap dots c.if-cut.false)) (puts_none a.at a.out.now (omega (arith, c.requires))), omega arith)
