-- `trees::leaves` meets its contract: so far the first i leaves are set. Assumes nothing.
use mathlib.Core.Path.{◌≡◌, refl}
use Prim.Native.Nat.{◌-◌}
use native.Mathlib.Omega.{arith}
use lib.Pow.{shr_le}
use Rattle.trees.proofs.Rules.{leaves_next}
use Rattle.trees.proofs.leaves.Goals as goal

pub loop-i-init : goal.loop-i-init
loop-i-init c = (refl, λ k l. absurd (omega arith))

pub overflow_cast-out-in-loop-i : goal.overflow_cast-out-in-loop-i
overflow_cast-out-in-loop-i c = omega (arith, shr_le c.args.word (c.args.many - 1 - c.loop-i.i))

pub loop-i-preserved : goal.loop-i-preserved
loop-i-preserved c =
    let k = c.loop-i in
    leaves_next c.args.word c.args.many k.i k.out (omega arith) k.invariant

pub returns : goal.returns
returns c =
    let k = c.loop-i in
    let z : k.i ≡ c.args.many = omega arith in
    record { long = k.invariant.0; bits = λ i l. k.invariant.1 i (omega arith) }
