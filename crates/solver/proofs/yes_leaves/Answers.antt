-- `solver::yes_leaves` meets its contract: the entries before i have their values, and the others are 0.
-- Assumes nothing.
use mathlib.Core.Path.{◌≡◌, refl, ◌∙◌}
use Prim.Native.Nat.{ℕ, ◌<◌}
use native.Mathlib.Omega.{arith}
use lib.ListN.{length, length-set}
use lib.Seq.{get_or-set_other}
use Rattle.lists.proofs.Lists.{repeated_at}
use Rattle.solver.proofs.Whole.{set_next}
use Rattle.solver.proofs.yes_leaves.Invariants.{Says}
use Rattle.solver.proofs.yes_leaves.Goals as goal

pub loop-i-init : goal.loop-i-init
loop-i-init c = (refl, λ j a b. absurd (omega arith), λ j l. repeated_at (λ (x : ℕ). x ≡ 0) refl refl 16 j)

pub leaf-requires : goal.leaf-requires
leaf-requires c = (c.requires.0, c.requires.1, omega arith)

pub bounds-out-i : goal.bounds-out-i
bounds-out-i c = omega (arith, c.requires.0)

pub loop-i-preserved : goal.loop-i-preserved
loop-i-preserved c =
    let loop = c.loop-i in
    let a = c.args in
    let within : loop.i < length loop.out = omega (arith, loop.invariant.0, c.requires.0) in (
      length-set loop.out _ _ ∙ loop.invariant.0,
      set_next (Says a.row a.k a.d) 0 loop.i c.leaf.result loop.out within loop.invariant.1 c.leaf.ensures,
      λ j l. get_or-set_other loop.out loop.i j _ 0 (λ z. omega arith) ∙ loop.invariant.2 j (omega arith),
    )

pub returns : goal.returns
returns c =
    let loop = c.loop-i in
    record { are = λ i l. loop.invariant.1 i (omega arith) (omega arith); none = λ i l. loop.invariant.2 i (omega arith) }
