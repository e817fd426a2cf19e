-- A word that was seen is in the list, and one that was not is put behind it; so in the end the list has the words of all pairs of classes.
-- Each evaluation is of a class and each class has an evaluation, so these are the words of all pairs of evaluations, and no other.
-- Assumes nothing.
use mathlib.Core.Bool.{true, false}
use mathlib.Core.Path.{◌≡◌, refl, sym, ap, ◌∙◌, subst}
use mathlib.Core.List.{List, [], ◌∷◌, ◌++◌}
use mathlib.Core.Logic.{◌⊎◌, inl, inr, ⊎_elim}
use Prim.Native.Nat.{ℕ, zero, suc, ◌+◌, ◌-◌, ◌*◌, ◌/◌, ◌%◌, ◌^◌, ◌≤◌, ◌<◌}
use native.Mathlib.Nat.{mod-lt, div-add-mod', zero-lt-suc}
use native.Mathlib.Numerals.{add-one}
use native.Mathlib.Decide.{ℕ_discrete as dec_eq}
use native.Mathlib.Omega.{arith}
use lib.Bits.{bit_or}
use lib.Dec.{eqb}
use lib.ListN.{length, get_or, take, set, length-set, length-append}
use lib.Seq.{get_or-set_same, get_or-set_other, take-suc-set}
use borrow.Author.Tests.{eqb-true}
use Rattle.formula.specs.Formula.{Atom}
use Rattle.lists.specs.Search.{In, here, below}
use Rattle.lists.proofs.Search.{none_in, in_one, in_left, in_right, in_either, collect_intro, collect_elim, collect_same, below_intro, below_elim}
use Rattle.lists.proofs.Below.{collect_more}
use Rattle.lists.proofs.Truth.{side, clash, or_cases}
use Rattle.evalset.specs.Bit.{bit}
use Rattle.evalset.proofs.Bits.{bit_add}
use Rattle.contact.specs.Plan.{may}
use Rattle.contact.proofs.Somewhere.{may_below}
use Rattle.search.specs.declared.Chart.{Chart}
use Rattle.search.specs.Compiled.{Compiled, contact_at}
use Rattle.pairing.specs.Sums.{entry}
use Rattle.pairing.specs.Words.{Spelt, IsWord, Serving}
use Rattle.pairing.specs.Masks.{MaskIs, MasksAre, lowest_of, Kept, pair_word, pairs_of, all_pairs, PairsIn}
use Rattle.pairing.specs.Listed.{pair_count, entries_of, seen_at, Seen, Noted}
use Rattle.pairing.proofs.Masking.{class_member, class_of, lowest_may, may_lowest}
use Rattle.pairing.proofs.Serving.{pair_spelt, word_turned}

-- ---- one word

module _ (seen list : List ℕ) (count k : ℕ) where
  pub note_seen : seen_at seen k ≡ true → Noted (k ∷ []) seen list count seen list count
  note_seen h =
      record {
        long_seen = refl;
        long_list = refl;
        few = omega arith;
        only = λ i. inl i;
        noted = λ s. s;
        there = λ s i. ⊎_elim (λ j. j) (λ j. subst (λ (x : ℕ). In x (take count list)) (sym (in_one j)) (s k h)) i;
      }

  module _ (lw : k / 64 < length seen) (ll : count < length list) where
    abbrev word : ℕ
    word = bit_or (get_or seen (k / 64) 0) ((1 * 2 ^ (k % 64)) % 18446744073709551616)

    front : take (count + 1) (set list count k) ≡ take count list ++ (k ∷ [])
    front = ap (λ (x : ℕ). take x (set list count k)) (add-one count) ∙ take-suc-set list count k ll

    -- what is seen now was seen before, or is k
    seen_now : (j : ℕ) → seen_at (set seen (k / 64) word) j ≡ true → (seen_at seen j ≡ true) ⊎ (j ≡ k)
    seen_now j h = go (dec_eq (j / 64) (k / 64))
      where
        go : Dec (j / 64 ≡ k / 64) → (seen_at seen j ≡ true) ⊎ (j ≡ k)
        go (yes z) =
            ⊎_elim (λ t. inl (ap (λ (x : ℕ). bit (get_or seen x 0) (j % 64)) z ∙ t))
            (λ t. let y : j % 64 ≡ k % 64 = eqb-true (j % 64) (k % 64) t in
            inr (omega (arith, z, y, div-add-mod' j 64, div-add-mod' k 64)))
            (or_cases (bit (get_or seen (k / 64) 0) (j % 64)) (eqb (j % 64) (k % 64))
            (sym (bit_add 64 (get_or seen (k / 64) 0) (k % 64) (j % 64) (mod-lt k (zero-lt-suc 63)))
            ∙ ap (λ (x : ℕ). bit x (j % 64)) (sym (ap (λ (x : ℕ). get_or (set seen (k / 64) word) x 0) z ∙ get_or-set_same seen (k / 64) word 0 lw)) ∙ h))
        go (no ne) = inl (ap (λ (x : ℕ). bit x (j % 64)) (sym (get_or-set_other seen (k / 64) (j / 64) word 0 ne)) ∙ h)

    pub note_new : Noted (k ∷ []) seen list count (set seen (k / 64) word) (set list count k) (count + 1)
    note_new =
        let back : (w : ℕ) → In w (take count list ++ (k ∷ [])) → In w (take (count + 1) (set list count k)) = λ w i. subst (In w) (sym front) i in
        record {
          long_seen = length-set seen (k / 64) word;
          long_list = length-set list count k;
          few = omega arith;
          only = λ {w} i. in_either (take count list) (k ∷ []) (subst (In w) front i);
          noted = λ s j h. back j (⊎_elim (λ t. in_left (k ∷ []) (s j t)) (λ z. in_right (take count list) (subst (λ (x : ℕ). In x (k ∷ [])) (sym z) here)) (seen_now j h));
          there = λ s {w} i. back w (⊎_elim (λ j. in_left (k ∷ []) j) (λ j. in_right (take count list) j) i);
        }

-- ---- one word after the other

pub noted_none : (seen list : List ℕ) (count : ℕ) → Noted [] seen list count seen list count
noted_none seen list count =
    record {
      long_seen = refl;
      long_list = refl;
      few = omega arith;
      only = λ i. inl i;
      noted = λ s. s;
      there = λ s i. ⊎_elim (λ j. j) none_in i;
    }

noted_more : {ks js seen list seen' list' seen'' list'' : List ℕ} {count r q : ℕ} → Noted ks seen list count seen' list' r
    → Noted js seen' list' r seen'' list'' q → Noted (ks ++ js) seen list count seen'' list'' q
noted_more {ks} {js} a b =
    record {
      long_seen = b.long_seen ∙ a.long_seen;
      long_list = b.long_list ∙ a.long_list;
      few = omega (arith, a.few, b.few, length-append ks js);
      only = λ i. ⊎_elim (λ j. ⊎_elim (λ h. inl h) (λ h. inr (in_left js h)) (a.only j)) (λ j. inr (in_right ks j)) (b.only i);
      noted = λ s. b.noted (a.noted s);
      there = λ s i.
          b.there (a.noted s)
          (⊎_elim (λ j. inl (a.there s (inl j))) (λ j. ⊎_elim (λ h. inl (a.there s (inr h))) (λ h. inr h) (in_either ks js j)) i);
    }

-- ---- the pairs

-- one word more of an array
module _ (words : List ℕ) where
  entries_next : (f : ℕ) → entries_of words f ++ (entry words f ∷ []) ≡ entries_of words (f + 1)
  unfolding entries_of
  entries_next f = collect_more (λ f. entry words f ∷ []) f

  pub entry_noted : {seen list seen' list' seen'' list'' : List ℕ} {count r q : ℕ} (f : ℕ) → Noted (entries_of words f) seen list count seen' list' r
      → Noted (entry words f ∷ []) seen' list' r seen'' list'' q → Noted (entries_of words (f + 1)) seen list count seen'' list'' q
  entry_noted {seen} {list} {seen'} {list'} {seen''} {list''} {count} {r} {q} f a b =
      subst (λ (ks : List ℕ). Noted ks seen list count seen'' list'' q) (entries_next f) (noted_more a b)

  pub entries_length : (n : ℕ) → length (entries_of words n) ≡ n
  unfolding entries_of
  entries_length zero = refl
  entries_length (suc n) =
      ap (λ (x : ℕ). length (entries_of words x)) (sym (add-one n)) ∙ ap length (sym (entries_next n)) ∙ length-append (entries_of words n) (entry words n ∷ [])
      ∙ omega (arith, entries_length n)

module _ (zeros : ℕ) (masks : List ℕ) where
  -- the word of the masks at e and at f
  abbrev word_at : ℕ → ℕ → ℕ
  word_at e f = pair_word zeros (entry masks e) (entry masks f)

  -- the pairs of e are put into an array
  pub pairs_in_none : (e : ℕ) (words : List ℕ) → length words ≡ 256 → PairsIn zeros masks e 0 words
  pairs_in_none e words h = record { long = h; are = λ f l. absurd (omega arith) }

  pub pairs_in_more : (e n : ℕ) (words : List ℕ) → PairsIn zeros masks e n words → n < 256 → PairsIn zeros masks e (n + 1) (set words n (word_at e n))
  pairs_in_more e n words h l =
      record { long = length-set words n (word_at e n) ∙ h.long; are = λ f k. go f k (dec_eq f n) }
    where
      go : (f : ℕ) → f < n + 1 → Dec (f ≡ n) → entry (set words n (word_at e n)) f ≡ word_at e f
      go f k (yes z) =
          ap (entry (set words n (word_at e n))) z ∙ get_or-set_same words n (word_at e n) 0 (omega (arith, h.long)) ∙ ap (word_at e) (sym z)
      go f k (no ne) = get_or-set_other words n f (word_at e n) 0 ne ∙ h.are f (omega (arith, ne))

  -- an array with the pairs of e has their words
  entries_pairs : (e n : ℕ) (words : List ℕ) → PairsIn zeros masks e n words → entries_of words n ≡ pairs_of zeros masks e n
  unfolding entries_of pairs_of
  entries_pairs e n words h =
      collect_same (λ f. entry words f ∷ []) (λ f. word_at e f ∷ []) (below n) (λ f i. ap (λ (w : ℕ). w ∷ []) (h.are f (below_elim n f i)))

  all_next : (e : ℕ) → all_pairs zeros masks e ++ pairs_of zeros masks e (e + 1) ≡ all_pairs zeros masks (e + 1)
  unfolding all_pairs
  all_next e = collect_more (λ e. pairs_of zeros masks e (e + 1)) e

  -- the pairs of one mask more
  pub all_noted : {seen list seen' list' seen'' list'' : List ℕ} {count r q : ℕ} (e : ℕ) (words : List ℕ) → PairsIn zeros masks e (e + 1) words
      → Noted (all_pairs zeros masks e) seen list count seen' list' r → Noted (entries_of words (e + 1)) seen' list' r seen'' list'' q
      → Noted (all_pairs zeros masks (e + 1)) seen list count seen'' list'' q
  all_noted {seen} {list} {seen'} {list'} {seen''} {list''} {count} {r} {q} e words h a b =
      subst (λ (ks : List ℕ). Noted ks seen list count seen'' list'' q)
      (ap (λ (ks : List ℕ). all_pairs zeros masks e ++ ks) (entries_pairs e (e + 1) words h) ∙ all_next e) (noted_more a b)

  pairs_length : (e n : ℕ) → length (pairs_of zeros masks e n) ≡ n
  unfolding pairs_of
  pairs_length e zero = refl
  pairs_length e (suc n) =
      ap (λ (x : ℕ). length (pairs_of zeros masks e x)) (sym (add-one n)) ∙ ap length (sym (collect_more (λ f. word_at e f ∷ []) n))
      ∙ length-append (pairs_of zeros masks e n) (word_at e n ∷ []) ∙ omega (arith, pairs_length e n)

  pub all_length : (n : ℕ) → length (all_pairs zeros masks n) ≡ pair_count n
  unfolding all_pairs pair_count
  all_length zero = refl
  all_length (suc n) =
      ap (λ (x : ℕ). length (all_pairs zeros masks x)) (sym (add-one n)) ∙ ap length (sym (all_next n)) ∙ length-append (all_pairs zeros masks n) (pairs_of zeros masks n (n + 1))
      ∙ omega (arith, all_length n, pairs_length n (n + 1))

pub count_next : (e top : ℕ) → e < top → pair_count e + e + 1 ≤ pair_count top
unfolding pair_count
count_next e zero l = absurd (omega arith)
count_next e (suc top) l = ⊎_elim (λ k. omega (arith, count_next e top k)) (λ k. let z : e ≡ top = omega arith in omega (arith, ap pair_count z)) (side e top)

pub count_grows : (e top : ℕ) → e ≤ top → pair_count e ≤ pair_count top
count_grows e top l = ⊎_elim (λ k. omega (arith, count_next e top k)) (λ k. let z : e ≡ top = omega arith in omega (arith, ap pair_count z)) (side e top)

-- ---- the whole list

module _ (chart : Chart) (atoms : List (Atom ℕ)) (h : Compiled chart atoms) (contacts : ℕ) (few : chart.atoms ≤ 16) (c : Spelt chart.atoms (contact_at chart) contacts)
    (masks classes : List ℕ) (n : ℕ) (fits : 2 ^ chart.names ≤ length masks) (are : MasksAre chart.xs chart.ys chart.atoms (2 ^ chart.names) masks)
    (kept : Kept (lowest_of chart.names) (2 ^ chart.names) masks classes n) (seen list seen' list' : List ℕ) (r : ℕ) (none : (k : ℕ) → seen_at seen k ≡ false)
    (noted : Noted (all_pairs (65535 - contacts) classes n) seen list 0 seen' list' r) where
  abbrev top : ℕ
  top = 2 ^ chart.names

  abbrev zeros : ℕ
  zeros = 65535 - contacts

  -- the word of two classes
  abbrev joint : ℕ → ℕ → ℕ
  joint = word_at zeros classes

  -- e is of class i
  abbrev Of : ℕ → ℕ → Type 0
  Of e i = MaskIs chart.xs chart.ys chart.atoms e (entry classes i)

  unseen : Seen seen []
  unseen k t = clash t (none k)

  -- a point may have e
  abbrev May : ℕ → Type 0
  May e = may chart.names e ≡ true

  member : (i : ℕ) → i < n → (e : ℕ) × May e × Of e i
  member i l =
      let p = class_member chart.xs chart.ys chart.atoms (lowest_of chart.names) top masks classes n fits are kept i l in
      (p.0, lowest_may chart.names p.0 p.1 p.2, p.3)

  class : (e : ℕ) → May e → (i : ℕ) × (i < n) × Of e i
  class e k =
      class_of chart.xs chart.ys chart.atoms (lowest_of chart.names) top masks classes n fits are kept e
      (may_lowest chart.names e k) (may_below chart.names e k)

  spelt : (i j e f : ℕ) → May e → May f → Of e i → Of f j → IsWord atoms e f (joint i j)
  spelt i j e f le lf x y =
      pair_spelt chart contacts (entry classes i) (entry classes j) e f few c x y atoms h (may_below chart.names e le) (may_below chart.names f lf)

  -- a pair with the lesser class second
  listed : (i j : ℕ) → i < n → j ≤ i → In (joint i j) (take r list')
  unfolding pairs_of all_pairs
  listed i j li lj =
      noted.there unseen (inr (collect_intro (λ i. pairs_of zeros classes i (i + 1)) (below_intro n i li)
      (collect_intro (λ j. joint i j ∷ []) (below_intro (i + 1) j (omega arith)) here)))

  pair_of_lem : (w : ℕ) → In w (all_pairs zeros classes n) → (e : ℕ) × (f : ℕ) × May e × May f × IsWord atoms e f w
  unfolding pairs_of all_pairs
  pair_of_lem w i =
      let a = collect_elim (λ i. pairs_of zeros classes i (i + 1)) (below n) i in
      let b = collect_elim (λ j. joint a.0 j ∷ []) (below (a.0 + 1)) a.2 in
      let le : a.0 < n = below_elim n a.0 a.1 in
      let lf : b.0 < n = (let l = below_elim (a.0 + 1) b.0 b.1 in omega (arith, l, le)) in
      let e = member a.0 le in
      let f = member b.0 lf in
      (e.0, f.0, e.1, f.1, subst (IsWord atoms e.0 f.0) (sym (in_one b.2)) (spelt a.0 b.0 e.0 f.0 e.1 f.1 e.2 f.2))

  pub list_serves : Serving chart.names atoms (take r list')
  list_serves =
      record {
        each = λ {w} i. ⊎_elim none_in (pair_of_lem w) (noted.only i);
        every = λ e f le lf.
            let i = class e le in
            let j = class f lf in
            ⊎_elim
            (λ l. (
              joint j.0 i.0,
              listed j.0 i.0 j.1 (omega arith),
              word_turned atoms f e (joint j.0 i.0) (spelt j.0 i.0 f e lf le j.2 i.2),
            ))
            (λ l. (joint i.0 j.0, listed i.0 j.0 i.1 l, spelt i.0 j.0 e f le lf i.2 j.2))
            (side i.0 j.0);
      }
