-- `solver::word_leaves` meets its contract: the entries from k to i are the block's.
-- Assumes nothing.
use mathlib.Core.Path.{refl, ◌∙◌}
use Prim.Native.Nat.{◌<◌}
use native.Mathlib.Omega.{arith}
use lib.ListN.{length, length-set}
use Rattle.solver.proofs.Whole.{set_next, OfWord}
use Rattle.solver.proofs.word_leaves.Goals as goal

pub loop-i-init : goal.loop-i-init
loop-i-init c = (refl, refl, λ j a b. absurd (omega arith))

pub loop-i-preserved : goal.loop-i-preserved
loop-i-preserved c =
    let loop = c.loop-i in
    let a = c.args in
    let within : loop.i < length loop.out = omega (arith, loop.invariant.1, c.requires.0) in (
      refl,
      length-set loop.out _ _ ∙ loop.invariant.1,
      set_next (OfWord a.k a.d) a.k loop.i c.word_leaf.result loop.out within loop.invariant.2 c.word_leaf.ensures,
    )

pub returns : goal.returns
returns c =
    let loop = c.loop-i in
    record { size = loop.invariant.1; are = λ i l m. loop.invariant.2 i l (omega arith) }
