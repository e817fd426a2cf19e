-- `plan::place_word` meets its contract: so far the word holds the positions from its start up to j. Assumes nothing.
use native.Mathlib.Omega.{arith}
use Prim.Native.Nat.{◌+◌, ◌*◌}
use mathlib.Core.Path.{sym, ap, ◌∙◌}
use mathlib.Core.Bool.{Bool, ◌&&◌}
use mathlib.Core.Logic.{inl, inr, ⊎_elim}
use borrow.Author.Tests.{le-ltb}
use lib.ListN.{get_or}
use Rattle.lists.proofs.Truth.{side}
use Rattle.evalset.specs.Sets.{mem}
use Rattle.evalset.specs.Arrays.{positions_of}
use Rattle.evalset.proofs.Bits.{bit_none}
use Rattle.plan.proofs.WordOf.{held_more, held_all}
use Rattle.plan.proofs.place_word.Goals as goal

pub loop-j-init : goal.loop-j-init
loop-j-init c =
    let a = c.args in (
      omega arith,
      λ e. bit_none e ∙ sym (ap (λ (b : Bool). b && mem a.x (get_or a.points (64 * a.k + e) 0)) (le-ltb (64 * a.k + e) (64 * a.k) (omega arith))),
    )

pub loop-j-preserved : goal.loop-j-preserved
loop-j-preserved c =
    let a = c.args in
    let at = c.loop-j in (
      omega arith,
      held_more (64 * a.k) at.j (λ i. mem a.x (get_or a.points i 0)) at.word _ _ (omega arith) at.invariant.1 c.contains.ensures c.with_place-word.ensures,
    )

pub returns : goal.returns
unfolding positions_of
returns c =
    let a = c.args in
    let at = c.loop-j in
    λ e l. held_all (64 * a.k) at.j a.n (λ i. mem a.x (get_or a.points i 0)) at.word e at.invariant.1 at.invariant.0
    (⊎_elim (λ m. inr (omega arith)) (λ m. inl (omega arith)) (side (64 * a.k + 64) a.n))
