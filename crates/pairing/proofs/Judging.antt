-- A table judges its rows: the entry at what a row demands is the union of the words within it, so it is all of that exactly if every
-- demanded atom is served by a pair that the row leaves. Where nothing is demanded, some word has to be without the row's atoms.
-- Assumes nothing.
use mathlib.Core.Bool.{Bool, true, false, not, ◌&&◌, ◌||◌, and-eq-true_iff}
use mathlib.Core.Path.{◌≡◌, refl, sym, ap, ap₂, ◌∙◌}
use mathlib.Core.List.{List}
use mathlib.Core.Logic.{⊎_elim}
use mathlib.Mathlib.Data.Bool.Basic.{and_intro, or_inl, or_inr, partial_order_laws}
use Prim.Native.Nat.{ℕ, zero, suc, ◌+◌, ◌-◌, ◌*◌, ◌/◌, ◌^◌, ◌≤◌, ◌<◌}
use native.Mathlib.Nat.{pow-suc, mul-le-mul_right}
use native.Mathlib.Omega.{arith}
use lib.Bits.{bit_and, bit_or, bit_xor, mask_lt, xor_lt, or_lt}
use lib.Dec.{eqb}
use lib.Pow.{pow_mono, pow_pos, pow-add, ones_lt}
use lib.ListN.{length, get_or}
use borrow.Author.Tests.{not-true, eqb-true, eqb-false, eq-eqb, lt-ltb, le-ltb}
use Rattle.formula.specs.Formula.{Atom}
use Rattle.lists.specs.Search.{In, any, all, below}
use Rattle.lists.proofs.Search.{any_same, any_intro, any_elim, none_elim, none_intro, all_intro, all_elim, below_intro}
use Rattle.lists.proofs.Truth.{clash, cases, or_cases, side}
use Rattle.evalset.specs.Bit.{bit}
use Rattle.evalset.proofs.Bits.{bit_xor_lem, bit_or_lem, bit_and_lem, bit_none, bit_above, bit_ones, same_bits}
use Rattle.contact.specs.Plan.{may, Mark, mark, row_marks}
use Rattle.contact.specs.Check.{check}
use Rattle.contact.specs.Pairs.{serves, restricts, lives, some_pair, served, pair_check}
use Rattle.contact.proofs.Pairs.{pair_intro, pair_elim, check_pairs}
use Rattle.search.specs.Rows.{row_bits}
use Rattle.search.specs.Compiled.{atom_at}
use Rattle.pairing.specs.Sums.{entry, sub_to, sum_at, Sums}
use Rattle.pairing.specs.Words.{Contacts, IsWord, Serving, within, lone, row_test}
use Rattle.pairing.specs.Listed.{Takes, puts, puts_all}
use Rattle.pairing.proofs.Words.{differs, bit_upper, within_elim, within_intro, test_on, test_off}
use Rattle.pairing.proofs.Serving.{row_word_small, mark_bit, marks_there, restricts_bit, short_small, serves_bit, spelt_shifted}

-- ---- words

below_pow : (n : ℕ) → n < 2 ^ n
below_pow zero = omega arith
below_pow (suc n) = omega (arith, below_pow n, pow-suc 2 n)

-- numbers with the same bits are equal
same_all : (a b : ℕ) → ((p : ℕ) → bit a p ≡ bit b p) → a ≡ b
same_all a b h =
    same_bits (a + b) a b (omega (arith, below_pow a, pow_mono {i = a} {j = a + b} (omega arith)))
    (omega (arith, below_pow b, pow_mono {i = b} {j = a + b} (omega arith))) (λ p l. h p)

-- a subset, bit by bit
sub_intro : (d u s : ℕ) → ((q : ℕ) → q < d → bit u q ≡ true → bit s q ≡ true) → sub_to d u s ≡ true
unfolding sub_to
sub_intro zero u s h = refl
sub_intro (suc d) u s h =
    and_intro (sub_intro d u s (λ q l. h q (omega arith)))
    (cases (bit u d) (λ t. or_inr (not (bit u d)) (bit s d) (h d (omega arith) t)) (λ t. or_inl (not (bit u d)) (bit s d) (ap not t)))

sub_elim : (d u s : ℕ) → sub_to d u s ≡ true → (q : ℕ) → q < d → bit u q ≡ true → bit s q ≡ true
unfolding sub_to
sub_elim zero u s h q l t = absurd (omega arith)
sub_elim (suc d) u s h q l t =
    let r = (and-eq-true_iff (sub_to d u s) (not (bit u d) || bit s d)).0 h in
    ⊎_elim (λ k. sub_elim d u s r.0 q k t)
    (λ k. let z : q ≡ d = omega arith in
    ap (bit s) z ∙ ⊎_elim (λ w. clash (sym (ap (bit u) z) ∙ t) (not-true _ w)) (λ w. w) (or_cases (not (bit u d)) (bit s d) r.1))
    (side q d)

-- the number of a row under another
pub row_small : (k d b e : ℕ) → b < 2 ^ k → e < 2 ^ d → b * 2 ^ d + e < 2 ^ (k + d)
row_small k d b e l m =
    let top : (b + 1) * 2 ^ d ≤ 2 ^ k * 2 ^ d = mul-le-mul_right (2 ^ d) (omega arith) in
    omega (arith, top, pow-add 2 k d)

-- what the rows under the row b leave, of which C are the contacts
abbrev pub left_of : ℕ → ℕ → ℕ → ℕ
left_of C d b = bit_or (bit_xor (b * 2 ^ d) C) (2 ^ d - 1)

module _ (names : ℕ) (atoms : List (Atom ℕ)) (k d s b contacts : ℕ) (ws : List ℕ) (whole : k + d + s ≡ length atoms) (few : length atoms ≤ 16)
    (bl : b < 2 ^ k) (c : Contacts atoms contacts) (v : Serving names atoms ws) (t r zeros : List ℕ) (zero_is : (x : ℕ) → entry zeros x ≡ 0)
    (filled : Takes (puts_all s (left_of (contacts / 2 ^ s) d b) (2 ^ d - 1) ws) zeros t) (sums : Sums d 0 t r) (e : ℕ) (le : e < 2 ^ d) where
  abbrev C : ℕ
  C = contacts / 2 ^ s

  abbrev row : ℕ
  row = b * 2 ^ d + e

  abbrev T : ℕ
  T = bit_xor row C

  abbrev low : ℕ
  low = 2 ^ d - 1

  abbrev left : ℕ
  left = left_of C d b

  abbrev at : ℕ
  at = bit_and T low

  abbrev n : ℕ
  n = k + d

  abbrev ms : List Mark
  ms = row_marks atoms (row_bits n row)

  abbrev mark_at : ℕ → Mark
  mark_at p = mark (atom_at atoms (n - 1 - p)) (get_or (row_bits n row) (n - 1 - p) false)

  small : row < 2 ^ n
  small = row_small k d b e bl le

  T-small : T < 2 ^ n
  T-small = row_word_small atoms n s row contacts whole c small

  C-small : C < 2 ^ n
  C-small = (spelt_shifted (length atoms) s n _ contacts whole c).small

  wide : (x : ℕ) → x < 2 ^ n → x < 4294967296
  wide x l = omega (arith, pow_mono {i = n} {j = 16} (omega arith))

  -- ---- bits

  low_bit : (p : ℕ) → p < d → bit low p ≡ true
  low_bit p l = bit_ones d p ∙ lt-ltb p d l

  high_bit : (p : ℕ) → d ≤ p → bit low p ≡ false
  high_bit p l = bit_ones d p ∙ le-ltb p d l

  at_bit : (q : ℕ) → q < d → bit at q ≡ bit T q
  at_bit q l = bit_and_lem T low q ∙ ap (λ (x : Bool). bit T q && x) (low_bit q l) ∙ and_yes (bit T q)
    where
      and_yes : (x : Bool) → (x && true) ≡ x
      and_yes true = refl
      and_yes false = refl

  base_bit : (p : ℕ) → d ≤ p → bit (b * 2 ^ d) p ≡ bit row p
  base_bit p l =
      let z : b * 2 ^ d ≡ b * 2 ^ d + 0 = omega arith in
      ap (λ (x : ℕ). bit x p) z ∙ bit_upper d b 0 p (pow_pos d) l ∙ sym (bit_upper d b e p le l)

  left_bit : (p : ℕ) → d ≤ p → bit left p ≡ bit T p
  left_bit p l =
      bit_or_lem (bit_xor (b * 2 ^ d) C) low p ∙ ap₂ ◌||◌ (bit_xor_lem (b * 2 ^ d) C p ∙ ap (λ (x : Bool). differs x (bit C p)) (base_bit p l)) (high_bit p l)
      ∙ or_no (differs (bit row p) (bit C p)) ∙ sym (bit_xor_lem row C p)
    where
      or_no : (x : Bool) → (x || false) ≡ x
      or_no true = refl
      or_no false = refl

  left_low : (p : ℕ) → p < d → bit left p ≡ true
  left_low p l = bit_or_lem (bit_xor (b * 2 ^ d) C) low p ∙ or_inr (bit (bit_xor (b * 2 ^ d) C) p) (bit low p) (low_bit p l)

  left_small : left < 4294967296
  left_small =
      let base : b * 2 ^ d < 2 ^ n = (let w = row_small k d b 0 bl (pow_pos d) in omega (arith, w)) in
      let lows : low < 2 ^ n = omega (arith, ones_lt d, pow_mono {i = d} {j = n} (omega arith)) in
      wide left (or_lt n (bit_xor (b * 2 ^ d) C) low (xor_lt n (b * 2 ^ d) C base C-small) lows)

  -- ---- a word of the list, without the atoms behind the rows'

  module _ (f g w : ℕ) (word : IsWord atoms f g w) where
    abbrev u : ℕ
    u = w / 2 ^ s

    u_small : u < 4294967296
    u_small = wide u (short_small atoms n s row contacts whole c small f g w word)

    -- it has only what the row demands
    abbrev Within : Type 0
    Within = (p : ℕ) → bit u p ≡ true → bit T p ≡ true

    put_in : Within → within left u ≡ true
    put_in h =
        within_intro left u u_small left_small (λ p i. ⊎_elim (λ l. left_low p l) (λ l. left_bit p l ∙ h p i) (side p d))

    below_at : Within → sub_to d (bit_and u low) at ≡ true
    below_at h =
        sub_intro d (bit_and u low) at
        (λ q l i. at_bit q l ∙ h q ((and-eq-true_iff (bit u q) (bit low q)).0 (sym (bit_and_lem u low q) ∙ i)).0)

    within_of : within left u ≡ true → sub_to d (bit_and u low) at ≡ true → Within
    within_of h i p j =
        ⊎_elim
        (λ l. sym (at_bit p l) ∙ sub_elim d (bit_and u low) at i p l (bit_and_lem u low p ∙ and_intro j (low_bit p l)))
        (λ l. sym (left_bit p l) ∙ within_elim left u u_small left_small h p j) (side p d)

    -- the pair is left exactly if its word is within what the row demands
    module _ (lf : may names f ≡ true) (lg : may names g ≡ true) where
      served_bit : (p : ℕ) → p < n → bit u p ≡ serves f g (mark_at p)
      served_bit = serves_bit atoms n s row contacts whole c small f g w word

      left_within : lives ms f g ≡ true → Within
      unfolding lives
      left_within h p j =
          ⊎_elim
          (λ l. let i : (restricts (mark_at p) && serves f g (mark_at p)) ≡ false =
          none_elim (λ m. restricts m && serves f g m) (not-true _ h) (marks_there atoms n s row contacts whole c small p l) in
          cases (bit T p) (λ z. z)
          (λ z. clash (and_intro (restricts_bit atoms n s row contacts whole c small p l ∙ ap not z) (sym (served_bit p l) ∙ j)) i))
          (λ l. clash j (bit_above n u p (short_small atoms n s row contacts whole c small f g w word) l)) (side p n)

      within_left : Within → lives ms f g ≡ true
      unfolding lives
      within_left h =
          ap not (none_intro (λ m. restricts m && serves f g m) ms (λ m i j.
          let q = mark_bit atoms n s row contacts whole c small i in
          let p = q.0 in
          let both = (and-eq-true_iff (restricts m) (serves f g m)).0 j in
          let on : bit u p ≡ true = served_bit p q.1 ∙ ap (serves f g) (sym q.2) ∙ both.1 in
          clash both.0 (ap restricts q.2 ∙ restricts_bit atoms n s row contacts whole c small p q.1 ∙ ap not (h p on))))

  -- ---- the entry at the row's place

  at_small : at < 2 ^ d
  at_small = mask_lt T d

  entry_sum : (p : ℕ) → bit (entry r at) p ≡ any (λ x. sub_to d x at && puts_all s left low ws x p) (below (2 ^ d))
  unfolding sum_at
  entry_sum p =
      let z : at ≡ 0 + at = omega arith in
      ap (λ (y : ℕ). bit (entry r y) p) z ∙ sums.sums at p at_small
      ∙ any_same (λ x. sub_to d x at && bit (entry t (0 + x)) p) (λ x. sub_to d x at && puts_all s left low ws x p) (below (2 ^ d))
      (λ x i. let y : 0 + x ≡ x = omega arith in
      ap (λ (q : Bool). sub_to d x at && q)
      (ap (λ (j : ℕ). bit (entry t j) p) y ∙ filled.bits x p ∙ ap (λ (q : Bool). q || puts_all s left low ws x p) (ap (λ (j : ℕ). bit j p) (zero_is x) ∙ bit_none p)))

  entry_elim : (p : ℕ) → bit (entry r at) p ≡ true
      → (f : ℕ) × (g : ℕ) × (w : ℕ) × (may names f ≡ true) × (may names g ≡ true) × (i : IsWord atoms f g w) × Within f g w i × (bit (w / 2 ^ s) p ≡ true)
  unfolding puts puts_all
  entry_elim p h =
      let x = any_elim (λ x. sub_to d x at && puts_all s left low ws x p) (below (2 ^ d)) (sym (entry_sum p) ∙ h) in
      let y = (and-eq-true_iff (sub_to d x.0 at) (puts_all s left low ws x.0 p)).0 x.2 in
      let w = any_elim (λ w. within left (w / 2 ^ s) && (eqb (bit_and (w / 2 ^ s) low) x.0 && bit (w / 2 ^ s) p)) ws y.1 in
      let u = w.0 / 2 ^ s in
      let i = (and-eq-true_iff (within left u) (eqb (bit_and u low) x.0 && bit u p)).0 w.2 in
      let j = (and-eq-true_iff (eqb (bit_and u low) x.0) (bit u p)).0 i.1 in
      let place : bit_and u low ≡ x.0 = eqb-true (bit_and u low) x.0 j.0 in
      let q = v.each w.1 in
      (q.0, q.1, w.0, q.2, q.3, q.4, within_of q.0 q.1 w.0 q.4 i.0 (ap (λ (z : ℕ). sub_to d z at) place ∙ y.0), j.1)

  entry_intro : (p f g w : ℕ) (i : IsWord atoms f g w) → In w ws → Within f g w i → bit (w / 2 ^ s) p ≡ true → bit (entry r at) p ≡ true
  unfolding puts puts_all
  entry_intro p f g w i there h on =
      let u = w / 2 ^ s in
      entry_sum p
      ∙ any_intro (λ x. sub_to d x at && puts_all s left low ws x p) (below_intro (2 ^ d) (bit_and u low) (mask_lt u d))
      (and_intro (below_at f g w i h)
      (any_intro (λ w. within left (w / 2 ^ s) && (eqb (bit_and (w / 2 ^ s) low) (bit_and u low) && bit (w / 2 ^ s) p)) there
      (and_intro (put_in f g w i h) (and_intro (eq-eqb (bit_and u low) (bit_and u low) refl) on))))

  -- ---- the test

  test_check : entry r at ≡ T → (lone s ws || not (eqb T 0)) ≡ true → pair_check names ms ≡ true
  unfolding pair_check served lone
  test_check q one =
      let full : (p : ℕ) → bit T p ≡ true → (f : ℕ) × (g : ℕ) × (w : ℕ) × (may names f ≡ true) × (may names g ≡ true) × (i : IsWord atoms f g w) × Within f g w i × (bit (w / 2 ^ s) p ≡ true) =
      λ p on. entry_elim p (ap (λ (x : ℕ). bit x p) q ∙ on) in
      and_intro
      (⊎_elim
      (λ l. let w = any_elim (λ w. eqb (w / 2 ^ s) 0) ws l in
      let z : w.0 / 2 ^ s ≡ 0 = eqb-true (w.0 / 2 ^ s) 0 w.2 in
      let i = v.each w.1 in
      pair_intro names (lives ms) i.0 i.1 i.2 i.3
      (within_left i.0 i.1 w.0 i.4 i.2 i.3 (λ p j. clash j (ap (λ (x : ℕ). bit x p) z ∙ bit_none p))))
      (λ l. some (not-true _ l) full) (or_cases (any (λ w. eqb (w / 2 ^ s) 0) ws) (not (eqb T 0)) one))
      (all_intro (λ m. restricts m || some_pair names (λ f g. lives ms f g && serves f g m)) ms (λ m i.
      let j = mark_bit atoms n s row contacts whole c small i in
      let p = j.0 in
      cases (bit T p)
      (λ on. let x = full p on in
      or_inr (restricts m) _
      (pair_intro names (λ f g. lives ms f g && serves f g m) x.0 x.1 x.3 x.4
      (and_intro (within_left x.0 x.1 x.2 x.5 x.3 x.4 x.6)
      (ap (serves x.0 x.1) j.2 ∙ sym (served_bit x.0 x.1 x.2 x.5 x.3 x.4 p j.1) ∙ x.7))))
      (λ off. or_inl (restricts m) _ (ap restricts j.2 ∙ restricts_bit atoms n s row contacts whole c small p j.1 ∙ ap not off))))
    where
      -- something is demanded, and served by a pair that is left
      some : eqb T 0 ≡ false → ((p : ℕ) → bit T p ≡ true → (f : ℕ) × (g : ℕ) × (w : ℕ) × (may names f ≡ true) × (may names g ≡ true) × (i : IsWord atoms f g w) × Within f g w i × (bit (w / 2 ^ s) p ≡ true))
          → some_pair names (lives ms) ≡ true
      some ne full =
          cases (any (bit T) (below n))
          (λ h. let p = any_elim (bit T) (below n) h in
          let x = full p.0 p.2 in
          pair_intro names (lives ms) x.0 x.1 x.3 x.4 (within_left x.0 x.1 x.2 x.5 x.3 x.4 x.6))
          (λ h. absurd (eqb-false T 0 ne (same_bits n T 0 T-small (pow_pos n) (λ p l. none_elim (bit T) h (below_intro n p l) ∙ sym (bit_none p)))))

  check_test : pair_check names ms ≡ true → (entry r at ≡ T) × ((lone s ws || not (eqb T 0)) ≡ true)
  unfolding pair_check served lone
  check_test h =
      let both = (and-eq-true_iff (some_pair names (lives ms)) (all (λ m. restricts m || some_pair names (λ f g. lives ms f g && serves f g m)) ms)).0 h in (
        same_all (entry r at) T (λ p.
            partial_order_laws.le_antisymm (bit (entry r at) p) (bit T p)
            (λ i. let x = entry_elim p i in x.6 p x.7)
            (λ on. let l : p < n = ⊎_elim (λ j. j) (λ j. absurd (clash on (bit_above n T p T-small j))) (side p n) in
            let m = all_elim (λ m. restricts m || some_pair names (λ f g. lives ms f g && serves f g m)) (marks_there atoms n s row contacts whole c small p l) both.1 in
            ⊎_elim
            (λ i. clash i (restricts_bit atoms n s row contacts whole c small p l ∙ ap not on))
            (λ i. let x = pair_elim names (λ f g. lives ms f g && serves f g (mark_at p)) i in
            let y = (and-eq-true_iff (lives ms x.0 x.1) (serves x.0 x.1 (mark_at p))).0 x.4 in
            let w = v.every x.0 x.1 x.2 x.3 in
            entry_intro p x.0 x.1 w.0 w.2 w.1 (left_within x.0 x.1 w.0 w.2 x.2 x.3 y.0)
            (served_bit x.0 x.1 w.0 w.2 x.2 x.3 p l ∙ y.1))
            (or_cases (restricts (mark_at p)) (some_pair names (λ f g. lives ms f g && serves f g (mark_at p))) m))),
        cases (eqb T 0)
            (λ z. let x = pair_elim names (lives ms) both.0 in
            let w = v.every x.0 x.1 x.2 x.3 in
            let inside = left_within x.0 x.1 w.0 w.2 x.2 x.3 x.4 in
            let none : w.0 / 2 ^ s ≡ 0 = same_all (w.0 / 2 ^ s) 0 (λ p. no_bit (w.0 / 2 ^ s) p (inside p) (eqb-true T 0 z) ∙ sym (bit_none p)) in
            or_inl _ _ (any_intro (λ w. eqb (w / 2 ^ s) 0) w.1 (eq-eqb (w.0 / 2 ^ s) 0 none)))
            (λ z. or_inr (any (λ w. eqb (w / 2 ^ s) 0) ws) (not (eqb T 0)) (ap not z)),
      )
    where
      no_bit : (x p : ℕ) → (bit x p ≡ true → bit T p ≡ true) → T ≡ 0 → bit x p ≡ false
      no_bit x p h z = cases (bit x p) (λ i. clash (h i) (ap (λ (y : ℕ). bit y p) z ∙ bit_none p)) (λ i. i)

  pub row_judged : row_test r (lone s ws) C low row ≡ check names ms
  row_judged =
      partial_order_laws.le_antisymm (row_test r (lone s ws) C low row) (check names ms)
      (λ h. check_pairs names ms ∙ yes_check h (entry_is h))
      (λ h. let i = check_test (sym (check_pairs names ms) ∙ h) in test_on r (lone s ws) C low row i.0 ∙ i.1)
    where
      entry_is : row_test r (lone s ws) C low row ≡ true → entry r at ≡ T
      entry_is h =
          cases (eqb (entry r at) T) (λ i. eqb-true (entry r at) T i) (λ i. clash h (test_off r (lone s ws) C low row (eqb-false (entry r at) T i)))

      yes_check : row_test r (lone s ws) C low row ≡ true → entry r at ≡ T → pair_check names ms ≡ true
      yes_check h i = test_check i (sym (test_on r (lone s ws) C low row i) ∙ h)
