-- `evalset::below` meets its contract: the first word below 2 ^ names, and of the others all or none.
-- Assumes nothing.
use mathlib.Core.Path.{◌≡◌, sym, ap, ◌∙◌}
use mathlib.Core.Bool.{Bool, ◌&&◌}
use mathlib.Mathlib.Logic.Function.Defs.{congr_fun}
use Prim.Native.Nat.{ℕ, ◌+◌, ◌*◌, ◌^◌, ◌<◌}
use native.Mathlib.Omega.{arith}
use lib.Dec.{ltb}
use borrow.Author.Tests.{lt-ltb, le-ltb}
use Rattle.evalset.specs.Bit.{word_bits}
use Rattle.evalset.specs.Sets.{room, below_in, below_of}
use Rattle.evalset.proofs.Words.{made, above_word}
use Rattle.evalset.proofs.below.Goals as goal

low : (names e : ℕ) → e < word_bits → below_in word_bits names e ≡ below_of names (word_bits * 0 + e)
unfolding room
low names e l =
    let z : e ≡ word_bits * 0 + e = omega arith in
    ap (λ (b : Bool). b && ltb e (2 ^ names)) (lt-ltb e word_bits l ∙ sym (lt-ltb e room (omega arith))) ∙ ap (below_of names) z

pub returns : goal.returns
unfolding room
returns c =
    let names = c.args.names in
    made (below_of names) _ _ _ _ (λ e l. congr_fun c.word_below.ensures e ∙ low names e l)
    (λ e l. c.all_bits-second.ensures e l ∙ sym (above_word names 6 (word_bits * 1 + e) (omega arith) (omega arith) (omega arith)))
    (λ e l. c.all_bits-upper.ensures e l ∙ sym (above_word names 7 (word_bits * 2 + e) (omega arith) (omega arith) (omega arith)))
    (λ e l. c.all_bits-upper.ensures e l ∙ sym (above_word names 7 (word_bits * 3 + e) (omega arith) (omega arith) (omega arith)))
    (λ e l. ap (λ (b : Bool). b && ltb e (2 ^ names)) (le-ltb e room l))
