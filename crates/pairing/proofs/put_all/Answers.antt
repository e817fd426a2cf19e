-- `pairing::put_all` meets its contract: so far the words before i are put. Assumes nothing.
use mathlib.Core.Bool.{◌||◌}
use mathlib.Core.Path.{◌≡◌, refl, sym, ap, ◌∙◌, subst}
use mathlib.Core.List.{List}
use Prim.Native.Nat.{ℕ, ◌/◌, ◌^◌}
use native.Mathlib.Omega.{arith}
use lib.ListN.{length, get_or, take}
use lib.Pow.{shr_le}
use lib.Seq.{take-length}
use Rattle.pairing.specs.Listed.{Takes, puts, puts_all}
use Rattle.pairing.proofs.Words.{takes_none, takes_more, puts_next}
use Rattle.pairing.proofs.put_all.Goals as goal

pub loop-word-init : goal.loop-word-init
unfolding puts_all
loop-word-init c = (c.requires.0, takes_none _ _ (λ s p. refl))

pub put-requires : goal.put-requires
put-requires c =
    let k = c.loop-word in
    let w = get_or c.args.list.now k.word-index 0 in (
      k.invariant.1.long ∙ k.invariant.0,
      c.requires.1,
      omega (arith, c.from.ensures, shr_le c.from.result c.args.s, c.type_inv.list k.word-index),
    )

pub loop-word-preserved : goal.loop-word-preserved
loop-word-preserved c =
    let k = c.loop-word in
    let a = c.args in (
      k.invariant.0,
      takes_more _ _ _ _ _ _ k.invariant.1 c.put.ensures
          (λ t p. puts_next a.s a.left a.low a.list.now k.word-index (omega arith) t p
          ∙ ap (λ (x : ℕ). puts_all a.s a.left a.low (take k.word-index a.list.now) t p || puts a.left a.low (x / 2 ^ a.s) t p) (sym c.from.ensures)),
    )

pub returns : goal.returns
returns c =
    let k = c.loop-word in
    let a = c.args in
    let z : k.word-index ≡ length a.list.now = omega arith in
    subst (λ (x : List ℕ). Takes (puts_all a.s a.left a.low x) a.table.now k.table)
    (ap (λ (x : ℕ). take x a.list.now) z ∙ take-length a.list.now) k.invariant.1
