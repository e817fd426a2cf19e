-- The sum over subsets goes half by half: the sums of the lower half, those of the upper half, and the lower sums taken in by the upper
-- ones. One law for any number of bits. Assumes nothing.
use mathlib.Core.Bool.{Bool, false, not, ◌&&◌, ◌||◌, and-true, and-false, or-false, or_comm}
use mathlib.Core.Path.{◌≡◌, refl, sym, ap, ap₂, ◌∙◌, subst}
use mathlib.Core.List.{List}
use mathlib.Core.Logic.{⊎_elim}
use Prim.Native.Nat.{ℕ, zero, suc, ◌+◌, ◌-◌, ◌^◌, ◌≤◌, ◌<◌}
use native.Mathlib.Nat.{pow-suc}
use native.Mathlib.Decide.{ℕ_discrete as dec_eq}
use native.Mathlib.Omega.{arith}
use lib.Bits.{bit_or}
use lib.ListN.{length, set, length-set}
use lib.Seq.{get_or-set_same, get_or-set_other}
use Rattle.lists.specs.Search.{any, from, below}
use Rattle.lists.proofs.Search.{any_same, any_append, from_append, below_elim}
use Rattle.lists.proofs.Below.{any_none}
use Rattle.lists.proofs.Truth.{side}
use Rattle.evalset.specs.Bit.{bit}
use Rattle.evalset.proofs.Bits.{bit_or_lem, bit_above, bit_under, bit_top}
use Rattle.pairing.specs.Sums.{entry, sub_to, sum_at, Joined, Sums}

-- ---- words that take in others

pub joined_none : (lo h : ℕ) (t : List ℕ) → Joined lo lo h t t
joined_none lo h t = record { long = refl; joined = λ q a b. absurd (omega arith); under = λ q l. refl; over = λ q l. refl }

-- one word more
pub joined_more : (lo hi h : ℕ) (t r : List ℕ) → Joined lo hi h t r → lo ≤ hi → h ≤ hi → hi - h < lo → hi < length r
    → Joined lo (hi + 1) h t (set r hi (bit_or (entry r hi) (entry r (hi - h))))
joined_more lo hi h t r k order below-hi low l =
    let new : ℕ = bit_or (entry r hi) (entry r (hi - h)) in
    let here : new ≡ bit_or (entry t hi) (entry t (hi - h)) = ap₂ bit_or (k.over hi (omega arith)) (k.under (hi - h) low) in
    record {
      long = length-set r hi new ∙ k.long;
      joined = λ q a b. go q a b (dec_eq q hi) here;
      under = λ q a. get_or-set_other r hi q new 0 (λ z. omega arith) ∙ k.under q a;
      over = λ q a. get_or-set_other r hi q new 0 (λ z. omega arith) ∙ k.over q (omega arith);
    }
  where
    go : (q : ℕ) → lo ≤ q → q < hi + 1 → Dec (q ≡ hi) → bit_or (entry r hi) (entry r (hi - h)) ≡ bit_or (entry t hi) (entry t (hi - h))
        → entry (set r hi (bit_or (entry r hi) (entry r (hi - h)))) q ≡ bit_or (entry t q) (entry t (q - h))
    go q a b (yes e) here =
        ap (entry (set r hi (bit_or (entry r hi) (entry r (hi - h))))) e
        ∙ get_or-set_same r hi (bit_or (entry r hi) (entry r (hi - h))) 0 l ∙ here
        ∙ ap (λ (x : ℕ). bit_or (entry t x) (entry t (x - h))) (sym e)
    go q a b (no ne) here =
        get_or-set_other r hi q (bit_or (entry r hi) (entry r (hi - h))) 0 ne ∙ k.joined q a (omega (arith, ne))

-- the same, by the place of the word that is taken in
pub joined_step : (lo j h : ℕ) (t r : List ℕ) → Joined lo (j + h) h t r → lo ≤ j + h → j < lo → j + h < length r
    → Joined lo (j + 1 + h) h t (set r (j + h) (bit_or (entry r (j + h)) (entry r j)))
joined_step lo j h t r k order low l =
    let z : j + h - h ≡ j = omega arith in
    let y : j + h + 1 ≡ j + 1 + h = omega arith in
    subst (λ (x : ℕ). Joined lo x h t (set r (j + h) (bit_or (entry r (j + h)) (entry r j)))) y
    (subst (λ (x : ℕ). Joined lo (j + h + 1) h t (set r (j + h) (bit_or (entry r (j + h)) (entry r x)))) z
    (joined_more lo (j + h) h t r k order (omega arith) (omega arith) l))

-- ---- numbers in two halves

any_shift : (p : ℕ → Bool) (k j n : ℕ) → any p (from (k + j) n) ≡ any (λ i. p (k + i)) (from j n)
any_shift p k j zero = refl
any_shift p k j (suc n) =
    let z : suc (k + j) ≡ k + suc j = omega arith in
    ap (λ (b : Bool). p (k + j) || b) (ap (λ (x : ℕ). any p (from x n)) z ∙ any_shift p k (suc j) n)

any_halves : (p : ℕ → Bool) (d : ℕ)
    → any p (below (2 ^ suc d)) ≡ (any p (below (2 ^ d)) || any (λ u. p (2 ^ d + u)) (below (2 ^ d)))
any_halves p d =
    let z : 2 ^ suc d ≡ 2 ^ d + 2 ^ d = omega (arith, pow-suc 2 d) in
    let y : 0 + 2 ^ d ≡ 2 ^ d + 0 = omega arith in
    ap (λ (n : ℕ). any p (below n)) z
    ∙ ap (any p) (from_append 0 (2 ^ d) (2 ^ d)) ∙ any_append p (below (2 ^ d)) (from (0 + 2 ^ d) (2 ^ d))
    ∙ ap (λ (b : Bool). any p (below (2 ^ d)) || b) (ap (λ (k : ℕ). any p (from k (2 ^ d))) y ∙ any_shift p (2 ^ d) 0 (2 ^ d))

-- ---- subsets

-- the bits from d on do not count
sub_upper : (d m u s : ℕ) → d ≤ m → sub_to d u (2 ^ m + s) ≡ sub_to d u s
unfolding sub_to
sub_upper zero m u s l = refl
sub_upper (suc d) m u s l = ap₂ (λ (a b : Bool). a && (not (bit u d) || b)) (sub_upper d m u s (omega arith)) (bit_under m s d (omega arith))

sub_both : (d m u s : ℕ) → d ≤ m → sub_to d (2 ^ m + u) (2 ^ m + s) ≡ sub_to d u s
unfolding sub_to
sub_both zero m u s l = refl
sub_both (suc d) m u s l =
    ap₂ ◌&&◌ (sub_both d m u s (omega arith))
    (ap₂ (λ (a b : Bool). not a || b) (bit_under m u d (omega arith)) (bit_under m s d (omega arith)))

module _ (d u s : ℕ) where
  -- a place of the lower half
  low_low : u < 2 ^ d → sub_to (suc d) u s ≡ sub_to d u s
  unfolding sub_to
  low_low l = ap (λ (b : Bool). sub_to d u s && (not b || bit s d)) (bit_above d u d l (omega arith)) ∙ and-true (sub_to d u s)

  -- the upper half has none of it
  high_low : u < 2 ^ d → s < 2 ^ d → sub_to (suc d) (2 ^ d + u) s ≡ false
  unfolding sub_to
  high_low k l =
      ap₂ (λ (a b : Bool). sub_to d (2 ^ d + u) s && (not a || b)) (bit_top d u k) (bit_above d s d l (omega arith))
      ∙ and-false (sub_to d (2 ^ d + u) s)

  low_high : u < 2 ^ d → sub_to (suc d) u (2 ^ d + s) ≡ sub_to d u s
  unfolding sub_to
  low_high l =
      ap (λ (b : Bool). sub_to d u (2 ^ d + s) && (not b || bit (2 ^ d + s) d)) (bit_above d u d l (omega arith))
      ∙ and-true (sub_to d u (2 ^ d + s)) ∙ sub_upper d d u s (omega arith)

  high_high : u < 2 ^ d → s < 2 ^ d → sub_to (suc d) (2 ^ d + u) (2 ^ d + s) ≡ sub_to d u s
  unfolding sub_to
  high_high k l =
      ap₂ (λ (a b : Bool). sub_to d (2 ^ d + u) (2 ^ d + s) && (not a || b)) (bit_top d u k) (bit_top d s l)
      ∙ and-true (sub_to d (2 ^ d + u) (2 ^ d + s)) ∙ sub_both d d u s (omega arith)

-- ---- the sums

module _ (d base : ℕ) (t : List ℕ) (p : ℕ) where
  -- those of the lower half are what they were
  sum_lower : (s : ℕ) → s < 2 ^ d → sum_at (suc d) base t s p ≡ sum_at d base t s p
  unfolding sum_at
  sum_lower s l =
      any_halves (λ u. sub_to (suc d) u s && bit (entry t (base + u)) p) d
      ∙ ap₂ ◌||◌
      (any_same (λ u. sub_to (suc d) u s && bit (entry t (base + u)) p) (λ u. sub_to d u s && bit (entry t (base + u)) p) (below (2 ^ d))
      (λ u i. ap (λ (b : Bool). b && bit (entry t (base + u)) p) (low_low d u s (below_elim (2 ^ d) u i))))
      (any_none (λ u. sub_to (suc d) (2 ^ d + u) s && bit (entry t (base + (2 ^ d + u))) p) (2 ^ d)
      (λ u k. ap (λ (b : Bool). b && bit (entry t (base + (2 ^ d + u))) p) (high_low d u s k l)))
      ∙ or-false (any (λ u. sub_to d u s && bit (entry t (base + u)) p) (below (2 ^ d)))

  -- those of the upper half take in those of the lower
  sum_upper : (s : ℕ) → s < 2 ^ d → sum_at (suc d) base t (2 ^ d + s) p ≡ (sum_at d base t s p || sum_at d (base + 2 ^ d) t s p)
  unfolding sum_at
  sum_upper s l =
      any_halves (λ u. sub_to (suc d) u (2 ^ d + s) && bit (entry t (base + u)) p) d
      ∙ ap₂ ◌||◌
      (any_same (λ u. sub_to (suc d) u (2 ^ d + s) && bit (entry t (base + u)) p) (λ u. sub_to d u s && bit (entry t (base + u)) p) (below (2 ^ d))
      (λ u i. ap (λ (b : Bool). b && bit (entry t (base + u)) p) (low_high d u s (below_elim (2 ^ d) u i))))
      (any_same (λ u. sub_to (suc d) (2 ^ d + u) (2 ^ d + s) && bit (entry t (base + (2 ^ d + u))) p)
      (λ u. sub_to d u s && bit (entry t (base + 2 ^ d + u)) p) (below (2 ^ d))
      (λ u i. let z : base + (2 ^ d + u) ≡ base + 2 ^ d + u = omega arith in
      ap₂ (λ (b : Bool) (x : ℕ). b && bit (entry t x) p) (high_high d u s (below_elim (2 ^ d) u i) l) z))

-- a table that is the same there has the same sums
sum_same : (d base : ℕ) (t a : List ℕ) (s p : ℕ) → ((u : ℕ) → u < 2 ^ d → entry a (base + u) ≡ entry t (base + u)) → sum_at d base a s p ≡ sum_at d base t s p
unfolding sum_at
sum_same d base t a s p h =
    any_same (λ u. sub_to d u s && bit (entry a (base + u)) p) (λ u. sub_to d u s && bit (entry t (base + u)) p) (below (2 ^ d))
    (λ u i. ap (λ (x : ℕ). sub_to d u s && bit x p) (h u (below_elim (2 ^ d) u i)))

-- one word is its own sum
pub sums_zero : (base : ℕ) (t : List ℕ) → Sums 0 base t t
unfolding sum_at sub_to
sums_zero base t =
    record {
      long = refl;
      sums = λ s p l.
          let z : s ≡ 0 = omega arith in
          ap (λ (x : ℕ). bit (entry t (base + x)) p) z ∙ sym (or-false (bit (entry t (base + 0)) p));
      under = λ q l. refl;
      over = λ q l. refl;
    }

-- the law
pub sums_next : (d base : ℕ) (t a b r : List ℕ) → Sums d base t a → Sums d (base + 2 ^ d) a b
    → Joined (base + 2 ^ d) (base + 2 ^ d + 2 ^ d) (2 ^ d) b r → Sums (suc d) base t r
sums_next d base t a b r k l j =
    record {
      long = j.long ∙ l.long ∙ k.long;
      sums = λ s p h. ⊎_elim (λ w. lower s p w) (λ w. upper s p w h) (side s (2 ^ d));
      under = λ q h. j.under q (omega arith) ∙ l.under q (omega arith) ∙ k.under q h;
      over = λ q h.
          let z : base + 2 ^ d + 2 ^ d ≤ q = omega (arith, pow-suc 2 d) in
          j.over q z ∙ l.over q z ∙ k.over q (omega arith);
    }
  where
    -- the lower sums, behind the upper ones
    low_sum : (s p : ℕ) → s < 2 ^ d → bit (entry b (base + s)) p ≡ sum_at d base t s p
    low_sum s p w = ap (λ (x : ℕ). bit x p) (l.under (base + s) (omega arith)) ∙ k.sums s p w

    lower : (s p : ℕ) → s < 2 ^ d → bit (entry r (base + s)) p ≡ sum_at (suc d) base t s p
    lower s p w = ap (λ (x : ℕ). bit x p) (j.under (base + s) (omega arith)) ∙ low_sum s p w ∙ sym (sum_lower d base t p s w)

    upper : (s p : ℕ) → 2 ^ d ≤ s → s < 2 ^ suc d → bit (entry r (base + s)) p ≡ sum_at (suc d) base t s p
    upper s p w h =
        let v : ℕ = s - 2 ^ d in
        let small : v < 2 ^ d = omega (arith, pow-suc 2 d) in
        let e : s ≡ 2 ^ d + v = omega arith in
        let at : base + s ≡ base + 2 ^ d + v = omega arith in
        let before : base + s - 2 ^ d ≡ base + v = omega arith in
        ap (λ (x : ℕ). bit x p) (j.joined (base + s) (omega arith) (omega (arith, pow-suc 2 d)))
        ∙ bit_or_lem (entry b (base + s)) (entry b (base + s - 2 ^ d)) p
        ∙ ap₂ (λ (x y : ℕ). bit (entry b x) p || bit (entry b y) p) at before
        ∙ ap₂ ◌||◌ (l.sums v p small ∙ sum_same d (base + 2 ^ d) t a v p (λ u i. k.over (base + 2 ^ d + u) (omega arith))) (low_sum v p small)
        ∙ or_comm (sum_at d (base + 2 ^ d) t v p) (sum_at d base t v p)
        ∙ sym (ap (λ (x : ℕ). sum_at (suc d) base t x p) e ∙ sum_upper d base t p v small)

-- the law where 2 ^ d is written out
pub sums_step : (d w base : ℕ) → w ≡ 2 ^ d → (t a b r : List ℕ) → Sums d base t a → Sums d (base + w) a b
    → Joined (base + w) (base + w + w) w b r → Sums (suc d) base t r
sums_step d w base e t a b r k l j =
    sums_next d base t a b r k (subst (λ (x : ℕ). Sums d (base + x) a b) e l) (subst (λ (x : ℕ). Joined (base + x) (base + x + x) x b r) e j)
