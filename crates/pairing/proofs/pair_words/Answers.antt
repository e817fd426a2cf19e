-- `pairing::pair_words` meets its contract: so far the words with the first f classes are made. Assumes nothing.
use mathlib.Core.Path.{◌≡◌, subst}
use Prim.Native.Nat.{ℕ, ◌+◌}
use native.Mathlib.Omega.{arith}
use Rattle.evalset.specs.Sets.{room}
use Rattle.pairing.specs.Masks.{pair_word, PairsIn}
use Rattle.pairing.proofs.Listing.{pairs_in_none, pairs_in_more}
use Rattle.pairing.proofs.pair_words.Goals as goal

pub offset_bounds-masks-e : goal.offset_bounds-masks-e
unfolding room
offset_bounds-masks-e c = omega arith

pub bounds-masks-e : goal.bounds-masks-e
unfolding room
bounds-masks-e c = omega arith

pub overflow_add-f-end : goal.overflow_add-f-end
unfolding room
overflow_add-f-end c = omega arith

pub loop-f-init : goal.loop-f-init
loop-f-init c = pairs_in_none _ _ _ _ c.requires.1

pub offset_bounds-masks-f : goal.offset_bounds-masks-f
unfolding room
offset_bounds-masks-f c = omega arith

pub bounds-masks-f : goal.bounds-masks-f
unfolding room
bounds-masks-f c = omega arith

pub offset_bounds-words-f : goal.offset_bounds-words-f
unfolding room
offset_bounds-words-f c = omega arith

pub bounds-words-f : goal.bounds-words-f
unfolding room
bounds-words-f c = omega arith

pub loop-f-preserved : goal.loop-f-preserved
unfolding pair_word room
loop-f-preserved c =
    let a = c.args in
    let k = c.loop-f in
    pairs_in_more a.zeros a.masks.now a.e k.f k.words k.invariant (omega arith)

pub returns : goal.returns
returns c =
    let k = c.loop-f in
    let a = c.args in
    let z : k.f ≡ a.e + 1 = omega arith in
    subst (λ (x : ℕ). PairsIn a.zeros a.masks.now a.e x k.words) z k.invariant
