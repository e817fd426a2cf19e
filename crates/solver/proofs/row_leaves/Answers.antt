-- `solver::row_leaves` meets its contract: the entries before i are the row's, and the others as they were.
-- Assumes nothing.
use mathlib.Core.Path.{refl, ◌∙◌}
use Prim.Native.Nat.{◌<◌}
use native.Mathlib.Omega.{arith}
use lib.ListN.{length, length-set}
use lib.Seq.{get_or-set_other}
use Rattle.solver.proofs.Whole.{set_next, OfRow}
use Rattle.solver.proofs.row_leaves.Goals as goal

pub loop-i-init : goal.loop-i-init
loop-i-init c = (c.requires.1, λ j a b. absurd (omega arith), λ j a. refl)

pub loop-i-preserved : goal.loop-i-preserved
loop-i-preserved c =
    let loop = c.loop-i in
    let a = c.args in
    let within : loop.i < length loop.leaves = omega (arith, loop.invariant.0, c.requires.0) in (
      length-set loop.leaves _ _ ∙ loop.invariant.0,
      set_next (OfRow a.row a.k) 0 loop.i c.row_leaf.result loop.leaves within loop.invariant.1 c.row_leaf.ensures,
      λ j b. get_or-set_other loop.leaves loop.i j _ 0 (λ q. omega arith) ∙ loop.invariant.2 j (omega arith),
    )

pub returns : goal.returns
returns c =
    let loop = c.loop-i in
    record {
      size = loop.invariant.0;
      are = λ i l. loop.invariant.1 i (omega arith) (omega arith);
      kept = λ i l. loop.invariant.2 i (omega arith);
    }
