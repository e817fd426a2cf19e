-- `supportlog::kept` meets its contract, branch by branch. Assumes nothing.
use native.Mathlib.Omega.{arith}
use Rattle.supportlog.proofs.Splits.{kept_none, kept_return, kept_all}
use Rattle.supportlog.proofs.kept.Goals as goal

pub returns-then-len-le0 : goal.returns-then-len-le0
returns-then-len-le0 c = (omega arith, kept_none c.args.line.now (omega arith))

pub returns-then-line-len-eq-RETURN : goal.returns-then-line-len-eq-RETURN
returns-then-line-len-eq-RETURN c = (omega arith, kept_return c.args.line.now c.if-line-len-eq-RETURN.true)

pub returns : goal.returns
returns c = (omega arith, kept_all c.args.line.now c.if-line-len-eq-RETURN.false)
