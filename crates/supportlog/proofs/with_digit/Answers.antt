-- `supportlog::with_digit` meets its contract, branch by branch. Assumes nothing.
use mathlib.Core.Path.{sym}
use native.Mathlib.Omega.{arith}
use Rattle.supportlog.proofs.Numbers.{with_low, with_high, with_great, with_good}
use Rattle.supportlog.proofs.with_digit.Goals as goal

pub returns-then-d-lt48 : goal.returns-then-d-lt48
returns-then-d-lt48 c = sym (with_low c.args.n c.args.d (omega arith))

pub returns-then-d-gt57 : goal.returns-then-d-gt57
returns-then-d-gt57 c = sym (with_high c.args.n c.args.d (omega arith))

pub returns-then-m-gt-GREATEST : goal.returns-then-m-gt-GREATEST
returns-then-m-gt-GREATEST c = sym (with_great c.args.n c.args.d (omega arith) (omega arith) (omega arith))

pub returns : goal.returns
returns c = sym (with_good c.args.n c.args.d (omega arith) (omega arith) (omega arith))
