-- `pairing::masks_of` meets its contract: so far the masks are those by the first i atoms. Assumes nothing.
use mathlib.Core.Path.{◌≡◌, refl, ◌∙◌, subst}
use Prim.Native.Nat.{ℕ}
use native.Mathlib.Omega.{arith}
use Rattle.lists.proofs.Lists.{repeated_at}
use Rattle.evalset.specs.Sets.{mem_at}
use Rattle.pairing.specs.Sums.{entry}
use Rattle.pairing.specs.Masks.{MaskIs}
use Rattle.pairing.proofs.Masking.{mask_none, mask_spare, mask_more}
use Rattle.pairing.proofs.masks_of.Goals as goal

pub loop-i-init : goal.loop-i-init
loop-i-init c = (refl, λ e l. repeated_at (MaskIs _ _ 0 e) (mask_none _ _ e) (mask_none _ _ e) 256 e)

pub mark_each-requires : goal.mark_each-requires
mark_each-requires c =
    let k = c.loop-i in
    (c.requires.1, k.invariant.0, λ e l. mask_spare _ _ e k.i (entry k.masks e) (omega arith) (k.invariant.1 e l))

pub loop-i-preserved : goal.loop-i-preserved
unfolding mem_at
loop-i-preserved c =
    let k = c.loop-i in
    let r = c.mark_each.ensures in
    (r.long ∙ k.invariant.0, λ e l. mask_more _ _ e k.i (entry k.masks e) (entry c.mark_each.new.masks e) (k.invariant.1 e l) (r.marked e l))

pub returns : goal.returns
returns c =
    let k = c.loop-i in
    let a = c.args in
    let z : k.i ≡ a.n = omega arith in
    (k.invariant.0, λ e l. subst (λ (i : ℕ). MaskIs a.xs a.ys i e (entry k.masks e)) z (k.invariant.1 e l))
