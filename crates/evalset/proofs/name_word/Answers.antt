-- `evalset::name_word` meets its contract: the low bits of a number are those of its place in the word, the others those of the word's place.
-- Assumes nothing.
use mathlib.Core.Path.{◌≡◌, sym, ap, ◌∙◌}
use mathlib.Core.Bool.{Bool, ◌&&◌}
use mathlib.Mathlib.Logic.Function.Defs.{congr_fun}
use Prim.Native.Nat.{ℕ, ◌+◌, ◌-◌, ◌*◌}
use native.Mathlib.Omega.{arith}
use borrow.Author.Tests.{lt-ltb}
use Rattle.evalset.specs.Bit.{word_bits, word_levels, bit}
use Rattle.evalset.proofs.Words.{low_bit, high_bit}
use Rattle.evalset.proofs.name_word.Goals as goal

pub returns-then-i-lt6 : goal.returns-then-i-lt6
returns-then-i-lt6 c =
    let i = c.args.i in
    λ e l. congr_fun c.word_mask.ensures e ∙ ap (λ (b : Bool). b && bit e i) (lt-ltb e word_bits l) ∙ sym (low_bit c.args.k e i c.if-i-lt6.true)

pub returns-else-i-lt6 : goal.returns-else-i-lt6
unfolding bit
returns-else-i-lt6 c =
    let i = c.args.i in
    let k = c.args.k in
    let z : word_levels + (i - 6) ≡ i = omega (arith, c.if-i-lt6.false) in
    λ e l. c.all_bits.ensures e l ∙ sym (high_bit k e (i - 6) l) ∙ ap (λ (x : ℕ). bit (word_bits * k + e) x) z
