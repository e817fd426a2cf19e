-- A bit more in a square of words is a contact more. Assumes nothing.
use mathlib.Core.Path.{◌≡◌, refl, sym, ap, ap₂, ◌∙◌, fun_ext}
use mathlib.Core.Bool.{Bool, true, false, ◌&&◌, ◌||◌, cond, or-false, and-eq-true_iff}
use mathlib.Core.List.{List}
use mathlib.Core.Logic.{⊎_elim}
use mathlib.Mathlib.Data.Bool.Basic.{and_intro, eq-false_of_not-eq-true}
use Prim.Native.Nat.{ℕ, suc, ◌+◌, ◌*◌, ◌/◌, ◌%◌, ◌≤◌, ◌<◌}
use native.Mathlib.Omega.{arith}
use native.Mathlib.Nat.{mul-le-mul_left, mul-suc}
use native.Mathlib.Decide.{ℕ_discrete as dec_eq}
use lib.Dec.{eqb, ltb}
use lib.ListN.{length, get_or, set, length-set}
use lib.Seq.{get_or-set_same, get_or-set_other}
use borrow.Author.Tests.{lt-ltb, le-ltb, eq-eqb, ne_eqb}
use Rattle.lists.proofs.Truth.{side}
use Rattle.evalset.specs.Bit.{word_bits, bit}
use Rattle.squares.specs.Square.{wide, square_at, Clear}
use Rattle.plan.specs.Private.{add_at, joined_of, self_of, Grown}
use Rattle.plan.proofs.Squares.{self_elim}

-- ---- no bit
pub bits_none : (ws : List ℕ) → Clear ws → square_at ws ≡ self_of 0
bits_none ws clear = fun_ext (λ a. fun_ext (λ b.
    clear a b ∙ sym (eq-false_of_not-eq-true (λ e. let l = (self_elim 0 a b e).0 in omega arith))))

-- ---- one bit more
-- words of two rows are two words
apart : (w a i k l : ℕ) → k < w → l < w → w * a + k ≡ w * i + l → a ≡ i
apart w a i k l m n e = ⊎_elim (λ x. absurd (lower a i k l m x e)) (λ x. ⊎_elim (λ y. absurd (lower i a l k n y (sym e))) (λ y. omega arith) (side i a)) (side a i)
  where
    lower : (a i k l : ℕ) → k < w → a < i → w * a + k ≡ w * i + l → ⊥
    lower a i k l m x e =
        let d : w * suc a ≤ w * i = mul-le-mul_left w x in
        omega (arith, d, mul-suc w a, m, e)

module _ (ws : List ℕ) (w : ℕ) (is : wide ws ≡ w) where
  in_row : (us : List ℕ) → length us ≡ length ws → (a b : ℕ) → b < word_bits * w
      → square_at us a b ≡ bit (get_or us (w * a + b / word_bits) 0) (b % word_bits)
  unfolding square_at wide
  in_row us e a b l =
      ap (λ (x : ℕ). ltb b (word_bits * x) && bit (get_or us (x * a + b / word_bits) 0) (b % word_bits)) (ap (λ (n : ℕ). cond (eqb n word_bits) 1 4) e ∙ is)
      ∙ ap (λ (t : Bool). t && bit (get_or us (w * a + b / word_bits) 0) (b % word_bits)) (lt-ltb b (word_bits * w) l)

  past_row : (us : List ℕ) → length us ≡ length ws → (a b : ℕ) → word_bits * w ≤ b → square_at us a b ≡ false
  unfolding square_at wide
  past_row us e a b l =
      ap (λ (x : ℕ). ltb b (word_bits * x) && bit (get_or us (x * a + b / word_bits) 0) (b % word_bits)) (ap (λ (n : ℕ). cond (eqb n word_bits) 1 4) e ∙ is)
      ∙ ap (λ (t : Bool). t && bit (get_or us (w * a + b / word_bits) 0) (b % word_bits)) (le-ltb b (word_bits * w) l)

  module _ (i j v at : ℕ) (place : at ≡ w * i + j / word_bits) (a_word : at < length ws) (a-bit : j < word_bits * w)
      (bits : (e : ℕ) → bit v e ≡ (bit (get_or ws at 0) e || eqb e (j % word_bits))) where
    pub bit_set : Grown (add_at (square_at ws) i j) ws (set ws at v)
    bit_set = record { long = long; rows = fun_ext (λ a. fun_ext (λ b. ⊎_elim (low a b) (high a b) (side b (word_bits * w)))) }
      where
        long : length (set ws at v) ≡ length ws
        long = length-set ws at v

        -- no other position
        other : (a b : ℕ) → ((a ≡ i) → (b ≡ j) → ⊥) → (eqb a i && eqb b j) ≡ false
        other a b h = eq-false_of_not-eq-true (λ q. let u = (and-eq-true_iff (eqb a i) (eqb b j)).0 q in
            h (eqb_is a i u.0) (eqb_is b j u.1))
          where
            eqb_is : (x y : ℕ) → eqb x y ≡ true → x ≡ y
            eqb_is x y e = go (dec_eq x y)
              where
                go : Dec (x ≡ y) → x ≡ y
                go (yes p) = p
                go (no p) = absurd (let z : ◌≡◌ {A = Bool} true false = sym e ∙ ne_eqb x y p in let w : ◌≡◌ {A = ℕ} 0 1 = cc in omega arith)

        high : (a b : ℕ) → word_bits * w ≤ b → square_at (set ws at v) a b ≡ add_at (square_at ws) i j a b
        high a b l =
            past_row (set ws at v) long a b l
            ∙ sym (ap₂ ◌||◌ (past_row ws refl a b l) (other a b (λ p q. omega arith)))

        low : (a b : ℕ) → b < word_bits * w → square_at (set ws at v) a b ≡ add_at (square_at ws) i j a b
        low a b l = in_row (set ws at v) long a b l ∙ pick (dec_eq (w * a + b / word_bits) at)
          where
            last : a ≡ i → b / word_bits ≡ j / word_bits → Dec (b ≡ j) → eqb (b % word_bits) (j % word_bits) ≡ (eqb a i && eqb b j)
            last p q (yes r) =
                eq-eqb (b % word_bits) (j % word_bits) (ap (λ (x : ℕ). x % word_bits) r)
                ∙ sym (and_intro (eq-eqb a i p) (eq-eqb b j r))
            last p q (no r) =
                ne_eqb (b % word_bits) (j % word_bits) (λ z. r (omega arith))
                ∙ sym (other a b (λ x y. r y))

            pick : Dec (w * a + b / word_bits ≡ at)
                → bit (get_or (set ws at v) (w * a + b / word_bits) 0) (b % word_bits) ≡ add_at (square_at ws) i j a b
            pick (yes p) =
                let q : a ≡ i = apart w a i (b / word_bits) (j / word_bits) (omega arith) (omega arith) (p ∙ place) in
                let s : w * a ≡ w * i = ap (λ (x : ℕ). w * x) q in
                let r : b / word_bits ≡ j / word_bits = omega (arith, s, p, place) in
                ap (λ (x : ℕ). bit (get_or (set ws at v) x 0) (b % word_bits)) p
                ∙ ap (λ (x : ℕ). bit x (b % word_bits)) (get_or-set_same ws at v 0 a_word)
                ∙ bits (b % word_bits)
                ∙ ap₂ ◌||◌ (ap (λ (x : ℕ). bit (get_or ws x 0) (b % word_bits)) (sym p) ∙ sym (in_row ws refl a b l)) (last q r (dec_eq b j))
            pick (no p) =
                ap (λ (x : ℕ). bit x (b % word_bits)) (get_or-set_other ws at (w * a + b / word_bits) v 0 p)
                ∙ sym (in_row ws refl a b l)
                ∙ sym (or-false (square_at ws a b))
                ∙ ap (λ (t : Bool). square_at ws a b || t)
                (sym (other a b (λ x y. p (ap₂ (λ (s t : ℕ). w * s + t / word_bits) x y ∙ sym place))))

-- both ways round
pub both_set : (ws us vs : List ℕ) (i j : ℕ) → Grown (add_at (square_at ws) i j) ws us → Grown (add_at (square_at us) j i) us vs
    → Grown (joined_of (square_at ws) i j) ws vs
unfolding joined_of
both_set ws us vs i j g h =
    record { long = h.long ∙ g.long; rows = h.rows ∙ ap (λ (t : ℕ → ℕ → Bool). add_at t j i) g.rows }
