-- `pairing::mark_word` meets its contract: so far the masks of the first e evaluations from one on are marked. Assumes nothing.
use mathlib.Core.Path.{◌≡◌, sym, subst}
use Prim.Native.Nat.{ℕ, ◌+◌}
use native.Mathlib.Omega.{arith}
use Rattle.evalset.specs.Bit.{bit}
use Rattle.evalset.specs.Sets.{room}
use Rattle.pairing.specs.Masks.{Spare, MarkedIn}
use Rattle.pairing.proofs.Masking.{word_none, word_next}
use Rattle.pairing.proofs.mark_word.Goals as goal

pub loop-e-init : goal.loop-e-init
loop-e-init c = word_none _ _ _ _

pub overflow_add-at : goal.overflow_add-at
unfolding room
overflow_add-at c = omega (arith, c.requires.0)

pub offset_bounds-masks-at : goal.offset_bounds-masks-at
unfolding room
offset_bounds-masks-at c = omega (arith, c.requires.0)

pub bounds-masks-at : goal.bounds-masks-at
unfolding room
bounds-masks-at c = omega (arith, c.requires.0)

pub overflow_shr-x : goal.overflow_shr-x
overflow_shr-x c = omega (arith, c.requires.1)

pub overflow_shr-y : goal.overflow_shr-y
overflow_shr-y c = omega (arith, c.requires.1)

pub marked-requires : goal.marked-requires
marked-requires c =
    let k = c.loop-e in
    subst (λ (m : ℕ). Spare m) (sym (k.invariant.behind (c.args.from + k.e) (omega arith))) (c.requires.3 k.e (omega arith))

pub offset_bounds-masks-at-in-loop-e : goal.offset_bounds-masks-at-in-loop-e
unfolding room
offset_bounds-masks-at-in-loop-e c = omega (arith, c.requires.0)

pub bounds-masks-at-in-loop-e : goal.bounds-masks-at-in-loop-e
unfolding room
bounds-masks-at-in-loop-e c = omega (arith, c.requires.0)

pub loop-e-preserved : goal.loop-e-preserved
unfolding bit room
loop-e-preserved c =
    let k = c.loop-e in
    word_next c.args.x c.args.y c.args.from c.args.masks.now k.e c.marked.result k.masks k.invariant (omega (arith, c.requires.0, c.requires.2)) c.marked.ensures

pub returns : goal.returns
returns c =
    let k = c.loop-e in
    let a = c.args in
    let z : k.e ≡ a.n = omega arith in
    subst (λ (n : ℕ). MarkedIn a.x a.y a.from n a.masks.now k.masks) z k.invariant
