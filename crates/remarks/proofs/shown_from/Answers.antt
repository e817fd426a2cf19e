-- `remarks::shown_from` meets its contract, branch by branch. Assumes nothing.
use mathlib.Core.Path.{◌≡◌}
use Prim.Native.Nat.{◌-◌}
use native.Mathlib.Omega.{arith}
use borrow.Author.Tests.{lt-ltb, le-ltb}
use Rattle.remarks.specs.Remark.{shown_from}
use Rattle.remarks.proofs.shown_from.Goals as goal

pub returns-then-line-le-SHOWN : goal.returns-then-line-le-SHOWN
unfolding shown_from
returns-then-line-le-SHOWN c = (simp (le-ltb _ _ c.if-line-le-SHOWN.true), omega arith, omega arith)

pub returns-then-place-le-BEFORE : goal.returns-then-place-le-BEFORE
unfolding shown_from
returns-then-place-le-BEFORE c = let e : 0 ≡ c.args.place - 36 = omega arith in (simp (lt-ltb _ _ c.if-line-le-SHOWN.false) e, omega arith, omega arith)

pub returns : goal.returns
unfolding shown_from
returns c = (simp (lt-ltb _ _ c.if-line-le-SHOWN.false), omega arith, omega arith)
