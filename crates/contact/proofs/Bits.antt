-- Each choice of names below n is an evaluation below 2^n, for any n: the evaluation is built from its lowest bit up, and read
-- back by halving. Assumes nothing.
use mathlib.Core.Bool.{Bool, true, false, not, ◌&&◌, ◌||◌}
use mathlib.Core.Path.{◌≡◌, refl, ap, ap₂, ◌∙◌}
use Prim.Native.Nat.{ℕ, zero, suc, ◌+◌, ◌*◌, ◌^◌, ◌/◌, ◌%◌, ◌≤◌, ◌<◌}
use native.Mathlib.Omega.{arith}
use native.Mathlib.Nat.{pow-suc}
use lib.Dec.{eqb}
use Rattle.formula.specs.Formula.{Term}
use Rattle.evalset.specs.Bit.{bit}
use Rattle.evalset.proofs.Bits.{bit_zero, bit_suc}
use Rattle.contact.specs.Meaning.{holds}
use Rattle.contact.specs.Numbering.{TermBelow}

abbrev digit : Bool → ℕ
digit true = 1
digit false = 0

-- the evaluation whose bit i, for i below n, is v i
abbrev pub encode : ℕ → (ℕ → Bool) → ℕ
encode zero v = 0
encode (suc n) v = digit (v 0) + 2 * encode n (λ i. v (suc i))

digit_low : (b : Bool) (x : ℕ) → eqb ((digit b + 2 * x) % 2) 1 ≡ b
digit_low true x = let h : (1 + 2 * x) % 2 ≡ 1 = omega arith in rw h
digit_low false x = let h : (0 + 2 * x) % 2 ≡ 0 = omega arith in rw h

digit_high : (b : Bool) (x : ℕ) → (digit b + 2 * x) / 2 ≡ x
digit_high true x = omega arith
digit_high false x = omega arith

digit_le : (b : Bool) → digit b ≤ 1
digit_le true = omega arith
digit_le false = omega arith

pub encode_lt : (n : ℕ) (v : ℕ → Bool) → encode n v < 2 ^ n
encode_lt zero v = omega arith
encode_lt (suc n) v = rw (pow-suc 2 n) (omega (arith, encode_lt n (λ i. v (suc i)), digit_le (v 0)))

pub bit_encode : (n : ℕ) (v : ℕ → Bool) (i : ℕ) → i < n → bit (encode n v) i ≡ v i
bit_encode zero v i h = absurd (omega arith)
bit_encode (suc n) v zero h = bit_zero (encode (suc n) v) ∙ digit_low (v 0) (encode n (λ i. v (suc i)))
bit_encode (suc n) v (suc i) h =
    bit_suc (encode (suc n) v) i ∙ ap (λ (x : ℕ). bit x i) (digit_high (v 0) (encode n (λ j. v (suc j))))
    ∙ bit_encode n (λ j. v (suc j)) i (omega arith)

-- a term's value depends on its names alone
pub holds_same : (n : ℕ) (v w : ℕ → Bool) → ((i : ℕ) → i < n → v i ≡ w i) → (t : Term ℕ) → TermBelow n t → holds v t ≡ holds w t
holds_same n v w h Term.zero o = refl
holds_same n v w h Term.one o = refl
holds_same n v w h (Term.name i) o = h i o
holds_same n v w h (Term.complement t) o = ap not (holds_same n v w h t o)
holds_same n v w h (Term.intersection s t) o = ap₂ ◌&&◌ (holds_same n v w h s o.0) (holds_same n v w h t o.1)
holds_same n v w h (Term.union s t) o = ap₂ ◌||◌ (holds_same n v w h s o.0) (holds_same n v w h t o.1)
