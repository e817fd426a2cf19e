-- `pairing::mark_each` meets its contract: so far the masks of the first k words of evaluations are marked. Assumes nothing.
use mathlib.Core.Path.{◌≡◌, sym, ◌∙◌, subst}
use Prim.Native.Nat.{ℕ, ◌+◌, ◌*◌, min}
use native.Mathlib.Omega.{arith}
use Rattle.evalset.specs.Bit.{word_bits}
use Rattle.evalset.specs.Sets.{room}
use Rattle.pairing.specs.Masks.{Spare, MarkedTo}
use Rattle.pairing.proofs.Masking.{marked_none, marked_word}
use Rattle.pairing.proofs.mark_each.Goals as goal

pub loop-k-init : goal.loop-k-init
loop-k-init c =
    let a = c.args in
    let z : 0 ≡ min a.top (word_bits * 0) = omega arith in
    subst (λ (n : ℕ). MarkedTo a.x a.y n a.masks.now a.masks.now) z (marked_none _ _ _)

pub returns-then-top-from : goal.returns-then-top-from
returns-then-top-from c =
    let k = c.loop-k in
    let a = c.args in
    let z : min a.top (word_bits * k.k) ≡ a.top = omega (arith, c.if-top-from.true) in
    subst (λ (n : ℕ). MarkedTo a.x a.y n a.masks.now k.masks) z k.invariant

pub overflow_sub-top : goal.overflow_sub-top
overflow_sub-top c = omega (arith, c.if-top-from.false)

pub word_of-requires : goal.word_of-requires
word_of-requires c = tt

pub word_of-requires-in-loop-k : goal.word_of-requires-in-loop-k
word_of-requires-in-loop-k c = tt

pub mark_word-requires : goal.mark_word-requires
unfolding room
mark_word-requires c =
    let k = c.loop-k in
    let left = c.if-top-from.false in
    let n = c.min-n.ensures in (
      omega (arith, left, n, c.requires.0),
      omega (arith, n),
      k.invariant.long ∙ c.requires.1,
      λ e l. subst (λ (m : ℕ). Spare m) (sym (k.invariant.others (word_bits * k.k + e) (omega (arith, left)))) (c.requires.2 (word_bits * k.k + e) (omega (arith, left, n))),
    )

pub loop-k-preserved : goal.loop-k-preserved
loop-k-preserved c =
    let k = c.loop-k in
    let a = c.args in
    let left = c.if-top-from.false in
    let n = c.min-n in
    let start : min a.top (word_bits * k.k) ≡ word_bits * k.k = omega (arith, left) in
    let next : word_bits * k.k + n.result ≡ min a.top (word_bits * (k.k + 1)) = omega (arith, left, n.ensures) in
    subst (λ (m : ℕ). MarkedTo a.x a.y m a.masks.now c.mark_word.new.masks) next
    (marked_word a.x a.y a.masks.now (word_bits * k.k) n.result c.word_of.result c.word_of-in-loop-k.result k.masks c.mark_word.new.masks
    (subst (λ (m : ℕ). MarkedTo a.x a.y m a.masks.now k.masks) start k.invariant) c.mark_word.ensures
    (λ e l. c.word_of.ensures e (omega (arith, n.ensures))) (λ e l. c.word_of-in-loop-k.ensures e (omega (arith, n.ensures))))

pub returns : goal.returns
unfolding room
returns c =
    let k = c.loop-k in
    let a = c.args in
    let z : min a.top (word_bits * k.k) ≡ a.top = omega (arith, c.requires.0) in
    subst (λ (n : ℕ). MarkedTo a.x a.y n a.masks.now k.masks) z k.invariant
