-- `explaining::put` meets its contract: a node is closed by its word, or its branches come after the word that splits it. It has one atom
-- less to decide at each. Assumes nothing.
use mathlib.Core.Bool.{true, false}
use mathlib.Core.Path.{refl, ap, ◌∙◌}
use Prim.Native.Nat.{◌-◌}
use native.Mathlib.Omega.{arith}
use lib.ListN.{length, length-set}
use lib.Pow.{pow_pos}
use Rattle.explaining.proofs.Puts.{put_shut, put_left, put_both, node_in, node_new, in_bits, less, first_place, ends_below}
use Rattle.explaining.proofs.+put.Goals as goal

pub closing_word-requires : goal.closing_word-requires
closing_word-requires t c =
    let a = c.args in
    (c.requires.1, c.requires.4, in_bits a.code.now a.ends.now a.bits.now a.n a.h a.k a.j a.at c.requires)

pub returns-in-Some : goal.returns-in-Some
returns-in-Some t c =
    let a = c.args in (
      ap length c.write_word.ensures ∙ length-set a.buf.now a.at _,
      omega (arith, pow_pos (a.n - a.k)),
      put_shut a.code.now a.ends.now a.bits.now a.words.now a.n a.h a.k a.j a.at a.buf.now c.requires.3 c.requires.4 _ c.in-Some.ensures _ _ c.write_word.ensures refl,
    )

pub returns-then-k-n : goal.returns-then-k-n
returns-then-k-n t c =
    let a = c.args in
    (refl, omega (arith, pow_pos (a.n - a.k)), put_left a.code.now a.ends.now a.bits.now a.words.now a.n a.h a.k a.j a.at a.buf.now c.requires.3 c.requires.4 _ c.closing_word.ensures c.in_default.is c.if-k-n.true _)

pub put-middle-requires : goal.put-middle-requires
put-middle-requires t c =
    let a = c.args in
    less a.code.now a.ends.now a.bits.now a.n a.h a.k a.j a.at c.requires c.if-k-n.false _ _ _ _ c.decreases (omega (arith, c.if-j-lt32.true)) (omega arith) (first_place a.code.now a.ends.now a.bits.now a.n a.h a.k a.j a.at c.requires c.if-k-n.false)

pub put-requires : goal.put-requires
put-requires t c =
    let a = c.args in
    less a.code.now a.ends.now a.bits.now a.n a.h a.k a.j a.at c.requires c.if-k-n.false _ _ _ _ c.decreases (omega (arith, c.if-j-lt32.true)) (omega arith) (omega (arith, c.put-middle.ensures.1))

pub returns-then-j-lt32 : goal.returns-then-j-lt32
returns-then-j-lt32 t c =
    let a = c.args in (
      c.put.ensures.0 ∙ c.put-middle.ensures.0 ∙ ap length c.write_word-2.ensures ∙ length-set a.buf.now a.at _,
      ends_below a.code.now a.ends.now a.bits.now a.n a.h a.k a.j a.at c.requires c.if-k-n.false _ _ c.put-middle.ensures.1 c.put.ensures.1,
      put_both a.code.now a.ends.now a.bits.now a.words.now a.n a.h a.k a.j a.at a.buf.now c.requires.3 c.requires.4
          _ c.closing_word.ensures c.in_default.is c.if-k-n.false _ _ _ _ _ _ _ _ _ c.write_word-2.ensures c.put-middle.ensures.2 c.put.ensures.2
          (λ names atoms rules row node. node_in true node) (λ names atoms rules row node. node_in false node),
    )

pub put-middle-requires-2 : goal.put-middle-requires-2
put-middle-requires-2 t c =
    let a = c.args in
    less a.code.now a.ends.now a.bits.now a.n a.h a.k a.j a.at c.requires c.if-k-n.false _ _ _ _ c.decreases (omega arith) (omega arith) (first_place a.code.now a.ends.now a.bits.now a.n a.h a.k a.j a.at c.requires c.if-k-n.false)

pub put-requires-2 : goal.put-requires-2
put-requires-2 t c =
    let a = c.args in
    less a.code.now a.ends.now a.bits.now a.n a.h a.k a.j a.at c.requires c.if-k-n.false _ _ _ _ c.decreases (omega arith) (omega arith) (omega (arith, c.put-middle-2.ensures.1))

pub returns : goal.returns
returns t c =
    let a = c.args in (
      c.put-2.ensures.0 ∙ c.put-middle-2.ensures.0 ∙ ap length c.write_word-2.ensures ∙ length-set a.buf.now a.at _,
      ends_below a.code.now a.ends.now a.bits.now a.n a.h a.k a.j a.at c.requires c.if-k-n.false _ _ c.put-middle-2.ensures.1 c.put-2.ensures.1,
      put_both a.code.now a.ends.now a.bits.now a.words.now a.n a.h a.k a.j a.at a.buf.now c.requires.3 c.requires.4
          _ c.closing_word.ensures c.in_default.is c.if-k-n.false _ _ _ _ _ _ _ _ _ c.write_word-2.ensures c.put-middle-2.ensures.2 c.put-2.ensures.2
          (λ names atoms rules row node. node_new true node _ c.requires.2 c.falses-first.ensures.1)
          (λ names atoms rules row node. node_new false node _ c.requires.2 c.falses-second.ensures.1),
    )
