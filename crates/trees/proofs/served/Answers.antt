-- `trees::served` meets its contract: so far the words before the index are joined. Assumes nothing.
use mathlib.Core.Path.{◌≡◌, ap, ◌∙◌}
use mathlib.Core.List.{List}
use Prim.Native.Nat.{ℕ}
use native.Mathlib.Omega.{arith}
use lib.ListN.{length, take}
use lib.Seq.{take-length}
use Rattle.evalset.proofs.Bits.{bit_none}
use Rattle.trees.specs.Branch.{served_by}
use Rattle.trees.proofs.Floors.{served_next}
use Rattle.trees.proofs.served.Goals as goal

pub loop-w-init : goal.loop-w-init
unfolding served_by
loop-w-init c = bit_none

pub loop-w-preserved : goal.loop-w-preserved
loop-w-preserved c =
    let k = c.loop-w in
    let a = c.args in
    served_next a.left a.list.now k.w-index _ k.all (omega arith) k.invariant c.kept-all.ensures

pub returns : goal.returns
returns c = λ p.
    let k = c.loop-w in
    let a = c.args in
    let z : k.w-index ≡ length a.list.now = omega arith in
    k.invariant p ∙ ap (λ (x : List ℕ). served_by a.left x p) (ap (λ (x : ℕ). take x a.list.now) z ∙ take-length a.list.now)
