-- The masks of evaluations, atom by atom: each takes a digit in each half. Of these the different ones are kept: one that is among those
-- before it is left out. Assumes nothing.
use mathlib.Core.Bool.{Bool, true, false}
use mathlib.Core.Path.{◌≡◌, refl, sym, ap, ◌∙◌, subst}
use mathlib.Core.List.{List, [], ◌∷◌, ◌++◌}
use mathlib.Core.Logic.{⊎_elim}
use Prim.Native.Nat.{ℕ, zero, suc, ◌+◌, ◌-◌, ◌/◌, ◌%◌, ◌^◌, ◌≤◌, ◌<◌}
use native.Mathlib.Numerals.{add-one}
use native.Mathlib.Decide.{ℕ_discrete as dec_eq}
use native.Mathlib.Omega.{arith}
use lib.Pow.{pow_mono}
use lib.ListN.{length, take, set, length-set, length-take}
use lib.Seq.{get_or-set_same, get_or-set_other, get_or-take, length-take-le, take-suc-set}
use Rattle.lists.specs.Search.{In, here, elem}
use Rattle.lists.proofs.Search.{none_in, in_one, in_left, in_right, in_either, place, placed, elem_intro, elem_elim}
use Rattle.lists.proofs.Truth.{clash, side}
use Rattle.evalset.specs.declared.EvalSet.{EvalSet}
use Rattle.evalset.specs.Bit.{bit}
use Rattle.evalset.specs.Sets.{mem, mem_at}
use Rattle.contact.specs.Plan.{may}
use Rattle.contact.proofs.Somewhere.{may_some, may_intro}
use Rattle.pairing.specs.Sums.{entry}
use Rattle.pairing.specs.Words.{Spelt}
use Rattle.pairing.specs.Masks.{member_of, Spare, Marked, MarkedIn, MarkedTo, MaskIs, MasksAre, lowest_of, Kept}
use Rattle.pairing.proofs.Words.{spelt_none, spelt_more}

-- ---- the masks

module _ (xs ys : List EvalSet) (e : ℕ) where
  pub mask_none : MaskIs xs ys 0 e 0
  mask_none = record { first_is = spelt_none (member_of xs e); second_is = spelt_none (member_of ys e) }

  pub mask_spare : (i m : ℕ) → i < 16 → MaskIs xs ys i e m → Spare m
  mask_spare i m l h =
      let few : 2 ^ i ≤ 2 ^ 15 = pow_mono {i = i} {j = 15} (omega arith) in (omega (arith, h.second_is.small), omega (arith, h.first_is.small))

  pub mask_more : (i m r : ℕ) → MaskIs xs ys i e m → Marked (mem_at xs i e) (mem_at ys i e) m r → MaskIs xs ys (i + 1) e r
  mask_more i m r h k =
      record {
        first_is = subst (Spelt (i + 1) (member_of xs e)) (sym k.high) (spelt_more (member_of xs e) i (m / 65536) (mem_at xs i e) h.first_is refl);
        second_is = subst (Spelt (i + 1) (member_of ys e)) (sym k.low) (spelt_more (member_of ys e) i (m % 65536) (mem_at ys i e) h.second_is refl);
      }

module _ (x y from : ℕ) (masks : List ℕ) where
  pub word_none : MarkedIn x y from 0 masks masks
  word_none = record { long = refl; marked = λ e l. absurd (omega arith); before = λ e l. refl; behind = λ e l. refl }

  pub word_next : (e v : ℕ) (masks' : List ℕ) → MarkedIn x y from e masks masks' → from + e < length masks
      → Marked (bit x e) (bit y e) (entry masks' (from + e)) v → MarkedIn x y from (e + 1) masks (set masks' (from + e) v)
  word_next e v masks' h l k =
      record {
        long = length-set masks' (from + e) v ∙ h.long;
        marked = λ d ld. go d ld (dec_eq d e);
        before = λ d ld. get_or-set_other masks' (from + e) d v 0 (λ z. omega arith) ∙ h.before d ld;
        behind = λ d ld. get_or-set_other masks' (from + e) d v 0 (λ z. omega arith) ∙ h.behind d (omega arith);
      }
    where
      go : (d : ℕ) → d < e + 1 → Dec (d ≡ e) → Marked (bit x d) (bit y d) (entry masks (from + d)) (entry (set masks' (from + e) v) (from + d))
      go d ld (yes z) =
          subst (λ (i : ℕ). Marked (bit x i) (bit y i) (entry masks (from + i)) (entry (set masks' (from + e) v) (from + i))) (sym z)
          (subst (λ (m : ℕ). Marked (bit x e) (bit y e) m (entry (set masks' (from + e) v) (from + e))) (h.behind (from + e) (omega arith))
          (subst (Marked (bit x e) (bit y e) (entry masks' (from + e))) (sym (get_or-set_same masks' (from + e) v 0 (omega (arith, h.long)))) k))
      go d ld (no ne) =
          subst (Marked (bit x d) (bit y d) (entry masks (from + d))) (sym (get_or-set_other masks' (from + e) (from + d) v 0 (λ z. ne (omega arith))))
          (h.marked d (omega (arith, ne)))

module _ (x y : EvalSet) (masks : List ℕ) where
  pub marked_none : MarkedTo x y 0 masks masks
  marked_none = record { long = refl; marked = λ e l. absurd (omega arith); others = λ e l. refl }

  -- one word more
  pub marked_word : (from n u v : ℕ) (masks' more : List ℕ) → MarkedTo x y from masks masks' → MarkedIn u v from n masks' more
      → ((e : ℕ) → e < n → bit u e ≡ mem x (from + e)) → ((e : ℕ) → e < n → bit v e ≡ mem y (from + e)) → MarkedTo x y (from + n) masks more
  marked_word from n u v masks' more h k us vs =
      record {
        long = k.long ∙ h.long;
        marked = λ d l. ⊎_elim (low d) (high d l) (side d from);
        others = λ d l. k.behind d l ∙ h.others d (omega arith);
      }
    where
      low : (d : ℕ) → d < from → Marked (mem x d) (mem y d) (entry masks d) (entry more d)
      low d m = subst (Marked (mem x d) (mem y d) (entry masks d)) (sym (k.before d m)) (h.marked d m)

      there : (e : ℕ) → e < n → Marked (mem x (from + e)) (mem y (from + e)) (entry masks (from + e)) (entry more (from + e))
      there e l =
          subst (λ (b : Bool). Marked b (mem y (from + e)) (entry masks (from + e)) (entry more (from + e))) (us e l)
          (subst (λ (b : Bool). Marked (bit u e) b (entry masks (from + e)) (entry more (from + e))) (vs e l)
          (subst (λ (m : ℕ). Marked (bit u e) (bit v e) m (entry more (from + e))) (h.others (from + e) (omega arith)) (k.marked e l)))

      high : (d : ℕ) → d < from + n → from ≤ d → Marked (mem x d) (mem y d) (entry masks d) (entry more d)
      high d l m =
          let z : from + (d - from) ≡ d = omega arith in
          subst (λ (i : ℕ). Marked (mem x i) (mem y i) (entry masks i) (entry more i)) z (there (d - from) (omega arith))

-- ---- the places of an array's first elements

module _ (xs : List ℕ) (n : ℕ) where
  at_place : (i : ℕ) → i < n → n ≤ length xs → In (entry xs i) (take n xs)
  at_place i l k =
      subst (λ (m : ℕ). In m (take n xs)) (get_or-take n xs i 0 l) (placed 0 (take n xs) i (omega (arith, length-take-le n xs k)))

  place_of : {m : ℕ} → In m (take n xs) → (i : ℕ) × (i < n) × (entry xs i ≡ m)
  place_of j =
      let p = place 0 j in
      let l : p.0 < n = omega (arith, p.1, length-take n xs) in
      (p.0, l, sym (get_or-take n xs p.0 0 l) ∙ p.2)

-- ---- the different ones

pub kept_none : (low : ℕ) (masks : List ℕ) → Kept low low masks masks 0
kept_none low masks =
    record {
      long = refl;
      few = omega arith;
      only = none_in;
      there = λ e k l. absurd (omega arith);
      once = λ i j l k. absurd (omega arith);
    }

module _ (low n : ℕ) (masks masks' : List ℕ) (r : ℕ) (h : Kept low n masks masks' r) (from : low ≤ n) (l : n < length masks)
    (same : entry masks' n ≡ entry masks n) where
  abbrev m : ℕ
  m = entry masks' n

  -- one of those before it, or it
  wider : {x : ℕ} → (e : ℕ) × (low ≤ e) × (e < n) × (entry masks e ≡ x) → (e : ℕ) × (low ≤ e) × (e < n + 1) × (entry masks e ≡ x)
  wider w = (w.0, w.1, omega (arith, w.2), w.3)

  each : (P : ℕ → Type 0) → ((e : ℕ) → low ≤ e → e < n → P (entry masks e)) → P m → (e : ℕ) → low ≤ e → e < n + 1 → P (entry masks e)
  each P before it e k b = go (dec_eq e n)
    where
      go : Dec (e ≡ n) → P (entry masks e)
      go (yes z) = subst P (same ∙ ap (entry masks) (sym z)) it
      go (no ne) = before e k (omega (arith, ne))

  -- it is among those before it
  pub kept_out : elem m (take r masks') ≡ true → Kept low (n + 1) masks masks' r
  kept_out t =
      record {
        long = h.long;
        few = omega (arith, h.few);
        only = λ i. wider (h.only i);
        there = each (λ x. In x (take r masks')) h.there (elem_elim m (take r masks') t);
        once = h.once;
      }

  -- it is not
  pub kept_in : elem m (take r masks') ≡ false → Kept low (n + 1) masks (set masks' r m) (r + 1)
  kept_in t =
      record {
        long = length-set masks' r m ∙ h.long;
        few = omega (arith, h.few);
        only = λ {m = x} i.
            ⊎_elim (λ j. wider (h.only j)) (λ j. (n, from, omega arith, sym same ∙ sym (in_one j)))
            (in_either (take r masks') (m ∷ []) (subst (In x) front i));
        there = each (λ x. In x (take (r + 1) (set masks' r m)))
            (λ e k b. subst (In (entry masks e)) (sym front) (in_left (m ∷ []) (h.there e k b)))
            (subst (In m) (sym front) (in_right (take r masks') here));
        once = λ i j li lj z. go i j li lj (dec_eq j r) (sym (get_or-set_other masks' r i m 0 (λ y. omega arith)) ∙ z);
      }
    where
      fits : r < length masks'
      fits = omega (arith, h.few, h.long)

      front : take (r + 1) (set masks' r m) ≡ take r masks' ++ m ∷ []
      front = ap (λ (x : ℕ). take x (set masks' r m)) (add-one r) ∙ take-suc-set masks' r m fits

      go : (i j : ℕ) → i < j → j < r + 1 → Dec (j ≡ r) → entry masks' i ≡ entry (set masks' r m) j → ⊥
      go i j li lj (yes y) z =
          let e : entry masks' i ≡ m = z ∙ ap (entry (set masks' r m)) y ∙ get_or-set_same masks' r m 0 fits in
          clash (elem_intro m (subst (λ (x : ℕ). In x (take r masks')) e (at_place masks' r i (omega arith) (omega (arith, fits))))) t
      go i j li lj (no ne) z = h.once i j li (omega (arith, ne)) (z ∙ get_or-set_other masks' r j m 0 ne)

-- each class has an evaluation, and each evaluation a class
module _ (xs ys : List EvalSet) (n low top : ℕ) (masks classes : List ℕ) (r : ℕ) (fits : top ≤ length masks) (are : MasksAre xs ys n top masks)
    (kept : Kept low top masks classes r) where
  pub class_member : (i : ℕ) → i < r → (e : ℕ) × (low ≤ e) × (e < top) × MaskIs xs ys n e (entry classes i)
  class_member i l =
      let p = kept.only (at_place classes r i l (omega (arith, kept.few, kept.long))) in
      (p.0, p.1, p.2, subst (MaskIs xs ys n p.0) p.3 (are p.0 p.2))

  pub class_of : (e : ℕ) → low ≤ e → e < top → (i : ℕ) × (i < r) × MaskIs xs ys n e (entry classes i)
  class_of e k l =
      let p = place_of classes r (kept.there e k l) in
      (p.0, p.1, subst (MaskIs xs ys n e) (sym p.2) (are e l))

-- ---- the evaluations that a point may have

pub lowest_may : (names e : ℕ) → lowest_of names ≤ e → e < 2 ^ names → may names e ≡ true
lowest_may zero e k l = may_intro 0 e l (λ some. absurd (omega arith))
lowest_may (suc names) e k l = may_intro (suc names) e l (λ some. k)

pub may_lowest : (names e : ℕ) → may names e ≡ true → lowest_of names ≤ e
may_lowest zero e h = omega arith
may_lowest (suc names) e h = may_some (suc names) e (omega arith) h

pub lowest_named : (names : ℕ) → 0 < names → lowest_of names ≡ 1
lowest_named zero l = absurd (omega arith)
lowest_named (suc names) l = refl

pub lowest_small : (names : ℕ) → lowest_of names ≤ 1
lowest_small zero = omega arith
lowest_small (suc names) = omega arith
