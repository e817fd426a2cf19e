-- `explaining::leaves` meets its contract: so far the first i atoms have their leaves. Assumes nothing.
use mathlib.Core.Path.{◌≡◌, subst}
use Prim.Native.Nat.{ℕ}
use native.Mathlib.Omega.{arith}
use Rattle.kleene.specs.Rails.{yes_of, no_of}
use Rattle.explaining.specs.Nodes.{LeavesSay}
use Rattle.explaining.proofs.Values.{leaves_none, leaves_more}
use Rattle.explaining.proofs.leaves.Goals as goal

pub loop-i-init : goal.loop-i-init
loop-i-init c = (leaves_none yes_of _ _, leaves_none no_of _ _)

pub loop-i-preserved : goal.loop-i-preserved
loop-i-preserved c =
    let k = c.loop-i in (
      leaves_more yes_of _ _ _ _ _ (omega arith) k.invariant.0 c.leaf-both.ensures.0,
      leaves_more no_of _ _ _ _ _ (omega arith) k.invariant.1 c.leaf-both.ensures.1,
    )

pub returns : goal.returns
returns c =
    let k = c.loop-i in
    let a = c.args in
    let z : k.i ≡ 16 = omega arith in (
      subst (λ (x : ℕ). LeavesSay yes_of a.h a.k x k.out.yes) z k.invariant.0,
      subst (λ (x : ℕ). LeavesSay no_of a.h a.k x k.out.no) z k.invariant.1,
    )
