-- `pairing::half` meets its contract: so far the words up to j + h have taken in others. Assumes nothing.
use mathlib.Core.Path.{◌≡◌, subst}
use Prim.Native.Nat.{ℕ, ◌+◌}
use native.Mathlib.Omega.{arith}
use Rattle.pairing.specs.Sums.{Joined}
use Rattle.pairing.proofs.Subsets.{joined_none, joined_step}
use Rattle.pairing.proofs.half.Goals as goal

pub loop-j-init : goal.loop-j-init
loop-j-init c = (c.requires.0, joined_none _ _ _)

pub loop-j-preserved : goal.loop-j-preserved
loop-j-preserved c =
    let k = c.loop-j in (
      k.invariant.0,
      joined_step _ k.j _ _ k.table k.invariant.1 (omega arith) (omega arith) (omega (arith, k.invariant.0, k.invariant.1.long)),
    )

pub returns : goal.returns
returns c =
    let a = c.args in
    let k = c.loop-j in
    let e : k.j ≡ a.from + a.h = omega arith in
    subst (λ (x : ℕ). Joined (a.from + a.h) (x + a.h) a.h a.table.now k.table) e k.invariant.1
