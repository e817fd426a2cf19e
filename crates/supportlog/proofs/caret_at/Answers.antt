-- `supportlog::caret_at` meets its contract, form by form. Assumes nothing.
use mathlib.Core.Path.{◌≡◌, sym, ap, ◌∙◌}
use Prim.Native.Nat.{ℕ, ◌+◌, min}
use native.Mathlib.Omega.{arith}
use lib.ListN.{length}
use Rattle.supportlog.specs.declared.Form.{Form}
use Rattle.supportlog.specs.Remarks.{caret_at}
use Rattle.supportlog.proofs.Remarks.{caret_first}
use Rattle.supportlog.proofs.caret_at.Goals as goal

pub returns-then-line-carried : goal.returns-then-line-carried
returns-then-line-carried c =
    let a = c.args in
    let n = length a.line.now in
    let e : min n n ≡ min (a.carried + 1) n = omega (arith, c.if-line-carried.true) in
    e ∙ ap (λ (f : Form). min (caret_at f a.carried) n) (sym c.in-Add.is)

pub returns-else-line-carried : goal.returns-else-line-carried
returns-else-line-carried c =
    let a = c.args in
    ap (λ (f : Form). min (caret_at f a.carried) (length a.line.now)) (sym c.in-Add.is)

pub returns-in-Withdraw : goal.returns-in-Withdraw
returns-in-Withdraw c =
    let a = c.args in
    ap (λ (f : Form). min (caret_at f a.carried) (length a.line.now)) (sym c.in-Withdraw.is)

pub returns-in_default : goal.returns-in_default
returns-in_default c =
    let a = c.args in
    ap (λ (x : ℕ). min x (length a.line.now)) (caret_first a.form a.carried c.in_default.in_default-own.keys3)
