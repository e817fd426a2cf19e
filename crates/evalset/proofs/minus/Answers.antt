-- `evalset::minus` meets its contract: each word less the other set's.
-- Assumes nothing.
use mathlib.Core.Bool.{Bool, not, ◌&&◌}
use mathlib.Core.Path.{◌≡◌, refl, ap, ◌∙◌}
use Prim.Native.Nat.{ℕ, ◌-◌, ◌^◌, ◌<◌}
use Rattle.std.proofs.Common.{rules, bit_and}
use Rattle.evalset.specs.Bit.{word_bits, bit}
use Rattle.evalset.proofs.Bits.{bit_minus}
use Rattle.evalset.proofs.Words.{word, paired}
use Rattle.evalset.proofs.minus.Goals as goal

pub returns : goal.returns
returns c =
    paired (λ (x y : Bool). x && not y) refl _ _ _
    (λ k l e.
    let h : word c.by_words.result k ≡ bit_and (word c.args.a k) ((2 ^ word_bits - 1) - word c.args.b k) = search (rules, c.by_words.ensures k l) in
    let t : (word c.args.a k < 2 ^ word_bits) × (word c.args.b k < 2 ^ word_bits) = search rules in
    ap (λ (x : ℕ). bit x e) h ∙ bit_minus word_bits _ _ e t.0 t.1)
