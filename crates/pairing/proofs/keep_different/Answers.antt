-- `pairing::keep_different` meets its contract: so far the different ones of the first e masks are kept, and the masks from e on are as
-- they were. Assumes nothing.
use mathlib.Core.Path.{◌≡◌, refl, sym, ◌∙◌, subst}
use Prim.Native.Nat.{ℕ}
use native.Mathlib.Omega.{arith}
use lib.Seq.{get_or-set_other}
use Rattle.evalset.specs.Sets.{room}
use Rattle.pairing.specs.Sums.{entry}
use Rattle.pairing.specs.Masks.{lowest_of, Kept}
use Rattle.pairing.proofs.Masking.{kept_none, kept_out, kept_in, lowest_small}
use Rattle.pairing.proofs.keep_different.Goals as goal

pub loop-e-init : goal.loop-e-init
loop-e-init c =
    let is = c.lowest-e.ensures in
    let a = c.args in (
      omega (arith, is),
      subst (λ (e : ℕ). Kept (lowest_of a.names) e a.masks.now a.masks.now 0) (sym is) (kept_none (lowest_of a.names) a.masks.now),
      λ d l. refl,
    )

pub offset_bounds-masks-e : goal.offset_bounds-masks-e
unfolding room
offset_bounds-masks-e c = omega arith

pub bounds-masks-e : goal.bounds-masks-e
unfolding room
bounds-masks-e c = omega arith

pub among-requires : goal.among-requires
among-requires c =
    let k = c.loop-e in
    (omega (arith, k.invariant.1.few), k.invariant.1.long ∙ c.requires.2)

pub loop-e-preserved-then-among : goal.loop-e-preserved-then-among
unfolding room
loop-e-preserved-then-among c =
    let k = c.loop-e in (
      omega arith,
      kept_out _ k.e c.args.masks.now k.masks k.count k.invariant.1 k.invariant.0 (omega (arith, c.requires.2)) (k.invariant.2 k.e (omega arith))
          (sym c.among.ensures ∙ c.if-among.true),
      λ d l. k.invariant.2 d (omega arith),
    )

pub offset_bounds-masks-count : goal.offset_bounds-masks-count
unfolding room
offset_bounds-masks-count c = omega (arith, c.loop-e.invariant.1.few)

pub bounds-masks-count : goal.bounds-masks-count
unfolding room
bounds-masks-count c = omega (arith, c.loop-e.invariant.1.few)

pub overflow_add-count : goal.overflow_add-count
unfolding room
overflow_add-count c = omega (arith, c.loop-e.invariant.1.few)

pub loop-e-preserved : goal.loop-e-preserved
unfolding room
loop-e-preserved c =
    let k = c.loop-e in (
      omega arith,
      kept_in _ k.e c.args.masks.now k.masks k.count k.invariant.1 k.invariant.0 (omega (arith, c.requires.2)) (k.invariant.2 k.e (omega arith))
          (sym c.among.ensures ∙ c.if-among.false),
      λ d l. get_or-set_other k.masks k.count d (entry k.masks k.e) 0 (λ z. omega (arith, k.invariant.1.few)) ∙ k.invariant.2 d (omega arith),
    )

pub returns : goal.returns
returns c =
    let k = c.loop-e in
    let a = c.args in
    let z : k.e ≡ a.top = omega (arith, c.lowest-e.ensures, lowest_small a.names) in
    subst (λ (n : ℕ). Kept (lowest_of a.names) n a.masks.now k.masks k.count) z k.invariant.1
