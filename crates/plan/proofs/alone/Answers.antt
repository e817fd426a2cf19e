-- `plan::alone` meets its contract: one row after the other gets its own position. Assumes nothing.
use mathlib.Core.Path.{◌≡◌, refl, ap, ◌∙◌, subst}
use mathlib.Core.Bool.{Bool}
use Prim.Native.Nat.{ℕ}
use native.Mathlib.Omega.{arith}
use Rattle.plan.specs.Private.{add_at, self_of, Grown}
use Rattle.plan.proofs.Squares.{self_more}
use Rattle.plan.proofs.alone.Goals as goal

pub loop-i-init : goal.loop-i-init
loop-i-init c = record { long = refl; rows = c.requires.2 }

pub loop-i-preserved : goal.loop-i-preserved
loop-i-preserved c =
    let loop = c.loop-i in
    let g = c.set_bit.ensures in record {
      long = g.long ∙ loop.invariant.long;
      rows = g.rows ∙ ap (λ (t : ℕ → ℕ → Bool). add_at t loop.i loop.i) loop.invariant.rows ∙ self_more loop.i;
    }

pub returns : goal.returns
returns c =
    let a = c.args in
    let loop = c.loop-i in
    let e : loop.i ≡ a.count = omega arith in
    subst (λ (n : ℕ). Grown (self_of n) a.square.now loop.square) e loop.invariant
