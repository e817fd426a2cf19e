-- The bits of words: one word or the other but not both, a number above 2 ^ d and one below it, a word spelt digit by digit, a word
-- within another; and what a table takes in. Assumes nothing.
use mathlib.Core.Bool.{Bool, true, false, not, ◌&&◌, ◌||◌, or-false, or_assoc, beq}
use mathlib.Core.Path.{◌≡◌, refl, sym, ap, ap₂, ◌∙◌}
use mathlib.Core.List.{List}
use mathlib.Mathlib.Data.Bool.Basic.{and_intro}
use Prim.Native.Nat.{ℕ, zero, suc, ◌+◌, ◌-◌, ◌*◌, ◌/◌, ◌%◌, ◌^◌, ◌≤◌, ◌<◌}
use native.Mathlib.Nat.{pow-suc}
use native.Mathlib.Decide.{ℕ_discrete as dec_eq}
use native.Mathlib.Omega.{arith}
use lib.Bits.{bit_and, bit_or, bit_xor, block_half, block_odd, and_le_r, and_lt}
use lib.Dec.{eqb}
use lib.Pow.{pow_mono}
use lib.ListN.{length, get_or, take, set, length-set}
use lib.Seq.{get_or-set_same, get_or-set_other}
use borrow.Author.Tests.{eqb-true, eq-eqb, ne_eqb}
use Rattle.lists.specs.Search.{any}
use Rattle.lists.proofs.Lists.{take_next}
use Rattle.lists.proofs.Search.{any_last}
use Rattle.lists.proofs.Truth.{clash, cases}
use Rattle.evalset.specs.Bit.{bit}
use Rattle.evalset.proofs.Bits.{bit_zero, bit_suc, bit_or_lem, bit_none, bit_minus, same_bits}
use Rattle.pairing.specs.Sums.{entry}
use Rattle.pairing.specs.Words.{Spelt, within, row_test}
use Rattle.pairing.specs.Masks.{digit}
use Rattle.pairing.specs.Listed.{puts, puts_all, Takes}

-- one or the other but not both, as `bit_xor` has it
abbrev pub differs : Bool → Bool → Bool
differs a b = not (beq a b)

-- ---- a number above 2 ^ d and one below it

pub bit_lower : (d h e p : ℕ) → p < d → bit (h * 2 ^ d + e) p ≡ bit e p
bit_lower zero h e p l = absurd (omega arith)
bit_lower (suc d) h e zero l = bit_zero (h * 2 ^ suc d + e) ∙ ap (λ (x : ℕ). eqb x 1) (block_odd h d e) ∙ sym (bit_zero e)
bit_lower (suc d) h e (suc p) l =
    bit_suc (h * 2 ^ suc d + e) p ∙ ap (λ (x : ℕ). bit x p) (block_half h d e) ∙ bit_lower d h (e / 2) p (omega arith) ∙ sym (bit_suc e p)

pub bit_upper : (d h e p : ℕ) → e < 2 ^ d → d ≤ p → bit (h * 2 ^ d + e) p ≡ bit h (p - d)
bit_upper zero h e p l k =
    let z : h * 2 ^ 0 + e ≡ h = omega arith in
    let y : p ≡ p - 0 = omega arith in
    ap₂ bit z y
bit_upper (suc d) h e zero l k = absurd (omega arith)
bit_upper (suc d) h e (suc p) l k =
    let y : p - d ≡ suc p - suc d = omega arith in
    bit_suc (h * 2 ^ suc d + e) p ∙ ap (λ (x : ℕ). bit x p) (block_half h d e)
    ∙ bit_upper d h (e / 2) p (omega (arith, pow-suc 2 d)) (omega arith) ∙ ap (bit h) y

-- ---- a word digit by digit

pub spelt_none : (f : ℕ → Bool) → Spelt 0 f 0
spelt_none f = record { small = omega arith; bits = λ p l. absurd (omega arith) }

pub digit_small : (b : Bool) → digit b < 2
digit_small true = omega arith
digit_small false = omega arith

pub spelt_more : (f : ℕ → Bool) (i k : ℕ) (b : Bool) → Spelt i f k → b ≡ f i → Spelt (i + 1) f (k * 2 + digit b)
spelt_more f i k b s e =
    record {
      small = let z : 2 ^ (i + 1) ≡ 2 * 2 ^ i = pow_one in omega (arith, s.small, z, digit_small b);
      bits = each;
    }
  where
    pow_one : 2 ^ (i + 1) ≡ 2 * 2 ^ i
    pow_one = let y : i + 1 ≡ suc i = omega arith in ap (λ (x : ℕ). 2 ^ x) y ∙ (let w : 2 ^ suc i ≡ 2 * 2 ^ i = omega (arith, pow-suc 2 i) in w)

    digit_is : (b : Bool) → eqb (digit b) 1 ≡ b
    digit_is true = refl
    digit_is false = refl

    each : (p : ℕ) → p < i + 1 → bit (k * 2 + digit b) p ≡ f (i + 1 - 1 - p)
    each zero l =
        let y : (k * 2 + digit b) % 2 ≡ digit b = omega (arith, digit_small b) in
        let z : i ≡ i + 1 - 1 - 0 = omega arith in
        bit_zero (k * 2 + digit b) ∙ ap (λ (x : ℕ). eqb x 1) y ∙ digit_is b ∙ e ∙ ap f z
    each (suc p) l =
        let y : (k * 2 + digit b) / 2 ≡ k = omega (arith, digit_small b) in
        let z : i - 1 - p ≡ i + 1 - 1 - suc p = omega arith in
        bit_suc (k * 2 + digit b) p ∙ ap (λ (x : ℕ). bit x p) y ∙ s.bits p (omega arith) ∙ ap f z

-- ---- a word within another

module _ (left k : ℕ) (small : k < 4294967296) (wide : left < 4294967296) where
  pub within_elim : within left k ≡ true → (p : ℕ) → bit k p ≡ true → bit left p ≡ true
  unfolding within
  within_elim h p t =
      let z : bit_and k (4294967295 - left) ≡ 0 = eqb-true (bit_and k (4294967295 - left)) 0 h in
      cases (bit left p) (λ e. e)
      (λ e. clash (and_intro t (ap not e)) (sym (bit_minus 32 k left p small wide) ∙ ap (λ (x : ℕ). bit x p) z ∙ bit_none p))

  pub within_intro : ((p : ℕ) → bit k p ≡ true → bit left p ≡ true) → within left k ≡ true
  unfolding within
  within_intro g =
      eq-eqb (bit_and k (4294967295 - left)) 0
      (same_bits 32 (bit_and k (4294967295 - left)) 0 (and_lt 32 k (4294967295 - left) small (omega arith)) (omega arith)
      (λ p l. bit_minus 32 k left p small wide ∙ none p ∙ sym (bit_none p)))
    where
      none : (p : ℕ) → (bit k p && not (bit left p)) ≡ false
      none p =
          cases (bit k p) (λ e. ap₂ (λ (a b : Bool). a && not b) e (g p e)) (λ e. ap (λ (a : Bool). a && not (bit left p)) e)

-- ---- what a table takes in

pub takes_none : (h : ℕ → ℕ → Bool) (t : List ℕ) → ((s p : ℕ) → h s p ≡ false) → Takes h t t
takes_none h t n =
    record { long = refl; bits = λ s p. sym (or-false (bit (entry t s) p)) ∙ ap (λ (b : Bool). bit (entry t s) p || b) (sym (n s p)) }

pub takes_more : (f g h : ℕ → ℕ → Bool) (t a r : List ℕ) → Takes f t a → Takes g a r → ((s p : ℕ) → h s p ≡ (f s p || g s p)) → Takes h t r
takes_more f g h t a r k l e =
    record {
      long = l.long ∙ k.long;
      bits = λ s p.
          l.bits s p ∙ ap (λ (b : Bool). b || g s p) (k.bits s p) ∙ or_assoc (bit (entry t s) p) (f s p) (g s p)
          ∙ ap (λ (b : Bool). bit (entry t s) p || b) (sym (e s p));
    }

module _ (left low k : ℕ) (t : List ℕ) where
  pub takes_skip : within left k ≡ false → Takes (puts left low k) t t
  unfolding puts
  takes_skip h = takes_none (λ s p. within left k && (eqb (bit_and k low) s && bit k p)) t (λ s p. ap (λ (b : Bool). b && (eqb (bit_and k low) s && bit k p)) h)

  pub takes_put : within left k ≡ true → bit_and k low < length t
      → Takes (puts left low k) t (set t (bit_and k low) (bit_or (entry t (bit_and k low)) k))
  unfolding puts
  takes_put h l = record { long = length-set t (bit_and k low) new; bits = λ s p. at s p (dec_eq s (bit_and k low)) }
    where
      new : ℕ
      new = bit_or (entry t (bit_and k low)) k

      at : (s p : ℕ) → Dec (s ≡ bit_and k low)
          → bit (entry (set t (bit_and k low) new) s) p ≡ (bit (entry t s) p || (within left k && (eqb (bit_and k low) s && bit k p)))
      at s p (yes e) =
          ap (λ (x : ℕ). bit (entry (set t (bit_and k low) new) x) p) e
          ∙ ap (λ (x : ℕ). bit x p) (get_or-set_same t (bit_and k low) new 0 l) ∙ bit_or_lem (entry t (bit_and k low)) k p
          ∙ ap₂ (λ (x : ℕ) (b : Bool). bit (entry t x) p || b) (sym e)
          (sym (ap₂ (λ (a b : Bool). a && (b && bit k p)) h (eq-eqb (bit_and k low) s (sym e))))
      at s p (no ne) =
          ap (λ (x : ℕ). bit x p) (get_or-set_other t (bit_and k low) s new 0 ne)
          ∙ sym (ap₂ (λ (a b : Bool). bit (entry t s) p || (a && (b && bit k p))) h (ne_eqb (bit_and k low) s (λ z. ne (sym z)))
          ∙ or-false (bit (entry t s) p))

-- the words of a list, one more
pub puts_next : (t left low : ℕ) (ws : List ℕ) (i : ℕ) → i < length ws → (s p : ℕ)
    → puts_all t left low (take (i + 1) ws) s p ≡ (puts_all t left low (take i ws) s p || puts left low (get_or ws i 0 / 2 ^ t) s p)
unfolding puts_all
puts_next t left low ws i l s p =
    ap (any (λ w. puts left low (w / 2 ^ t) s p)) (take_next ws i 0 l) ∙ any_last (λ w. puts left low (w / 2 ^ t) s p) (take i ws) (get_or ws i 0)

-- what is masked is no more than the mask
pub masked : (a low n : ℕ) → low < n → bit_and a low < n
masked a low n h = go (bit_and a low) (and_le_r a low)
  where
    go : (x : ℕ) → x ≤ low → x < n
    go x l = omega arith

-- a word of at most 15 atoms has room for one more
pub spelt_few : (f : ℕ → Bool) (i k : ℕ) → Spelt i f k → i ≤ 16 → k < 65536
spelt_few f i k s l = omega (arith, s.small, pow_mono {i = i} {j = 16} l)

-- ---- the test of a row

module _ (table : List ℕ) (one : Bool) (contacts low row : ℕ) where
  pub test_on : entry table (bit_and (bit_xor row contacts) low) ≡ bit_xor row contacts
      → row_test table one contacts low row ≡ (one || not (eqb (bit_xor row contacts) 0))
  unfolding row_test
  test_on h = ap (λ (b : Bool). b && (one || not (eqb (bit_xor row contacts) 0))) (eq-eqb _ _ h)

  pub test_off : (entry table (bit_and (bit_xor row contacts) low) ≡ bit_xor row contacts → ⊥) → row_test table one contacts low row ≡ false
  unfolding row_test
  test_off h = ap (λ (b : Bool). b && (one || not (eqb (bit_xor row contacts) 0))) (ne_eqb _ _ h)
