-- A partial row is realised exactly if some pair serves none of the atoms that it restricts, and each atom that it demands is served by such a
-- pair: the test by the list of words is the check of its marks, by contact's law of pairs. Assumes nothing.
use mathlib.Core.Bool.{Bool, true, false, not, ◌&&◌, ◌||◌, cond, and-eq-true_iff}
use mathlib.Core.Path.{◌≡◌, refl, sym, ap, ap₂, ◌∙◌, subst}
use mathlib.Core.List.{List, [], ◌∷◌}
use mathlib.Core.Logic.{⊎_elim}
use mathlib.Mathlib.Data.Bool.Basic.{and_intro, or_inl, or_inr, partial_order_laws}
use Prim.Native.Nat.{ℕ, zero, suc, ◌+◌, ◌-◌, ◌^◌, ◌≤◌, ◌<◌}
use native.Mathlib.Omega.{arith}
use lib.Bits.{bit_and, bit_or, bit_xor, and_le_l, or_lt}
use lib.Dec.{eqb}
use lib.Pow.{pow_mono}
use lib.ListN.{length, get_or, take}
use borrow.Author.Tests.{not-true, ne_eqb}
use Rattle.formula.specs.Formula.{Atom}
use Rattle.formula.specs.Atoms.{is_contact}
use Rattle.lists.specs.Search.{In, here, next, any, all}
use Rattle.lists.proofs.Lists.{take_next}
use Rattle.lists.proofs.Search.{any_last, any_intro, any_elim, none_elim, none_intro, all_intro, all_elim, none_in, uncons}
use Rattle.lists.proofs.Truth.{clash, cases, or_cases, side}
use Rattle.evalset.specs.Bit.{bit}
use Rattle.evalset.proofs.Bits.{bit_xor_lem, bit_or_lem, bit_and_lem, bit_not, bit_none, bit_above, bit_add, bit_minus}
use Rattle.contact.specs.Row.{Three, is, unknown, PartialRow}
use Rattle.contact.specs.Plan.{may, Mark, mark, marks_of}
use Rattle.contact.specs.Check.{check}
use Rattle.contact.specs.Pairs.{serves, restricts, lives, some_pair, served, pair_check}
use Rattle.contact.proofs.Pairs.{pair_intro, pair_elim, check_pairs}
use Rattle.search.specs.Compiled.{atom_at}
use Rattle.pairing.specs.Words.{Contacts, IsWord, Serving, within}
use Rattle.pairing.proofs.Words.{differs, within_elim, within_intro}
use Rattle.pairing.proofs.Serving.{serves_any}
use Rattle.trees.specs.declared.Branch.{Branch}
use Rattle.trees.specs.Closed.{value_in}
use Rattle.trees.specs.Checker.{is_unknown}
use Rattle.trees.specs.Branch.{is_true, IsBranch, served_by}

-- ---- the words that are left

-- one more
pub served_next : (left : ℕ) (ws : List ℕ) (i k all : ℕ) → i < length ws → ((p : ℕ) → bit all p ≡ served_by left (take i ws) p)
    → k ≡ cond (within left (get_or ws i 0)) (bit_or (get_or ws i 0) 65536) 0 → (p : ℕ) → bit (bit_or all k) p ≡ served_by left (take (i + 1) ws) p
unfolding served_by
served_next left ws i k all l h e p =
    bit_or_lem all k p
    ∙ ap₂ ◌||◌ (h p) (ap (λ (x : ℕ). bit x p) e ∙ one (within left (get_or ws i 0)))
    ∙ sym (ap (any has) (take_next ws i 0 l) ∙ any_last has (take i ws) (get_or ws i 0))
  where
    has : ℕ → Bool
    has w = within left w && (bit w p || eqb p 16)

    one : (b : Bool) → bit (cond b (bit_or (get_or ws i 0) 65536) 0) p ≡ (b && (bit (get_or ws i 0) p || eqb p 16))
    one true = bit_add 32 (get_or ws i 0) 16 p (omega arith)
    one false = bit_none p

-- ---- the marks of a partial row, by the numbers of their atoms

pub part_mark : (atoms : List (Atom ℕ)) (part : PartialRow) {m : Mark} → In m (marks_of atoms part)
    → (i : ℕ) × (v : Bool) × (i < length atoms) × (value_in part i ≡ is v) × (m ≡ mark (atom_at atoms i) v)
part_mark [] part k = none_in k
part_mark (a ∷ atoms) [] k = none_in k
part_mark (a ∷ atoms) (is b ∷ part) k =
    ⊎_elim (λ q. (0, b, omega arith, refl, q))
    (λ j. let r = part_mark atoms part j in (suc r.0, r.1, omega (arith, r.2), r.3, r.4)) (uncons k)
part_mark (a ∷ atoms) (unknown ∷ part) k = let r = part_mark atoms part k in (suc r.0, r.1, omega (arith, r.2), r.3, r.4)

no_value : {P : Type 0} (v : Bool) → unknown ≡ is v → P
no_value v e = absurd (let z : ◌≡◌ {A = ℕ} 0 1 = cc in omega arith)

pub mark_there : (atoms : List (Atom ℕ)) (part : PartialRow) (i : ℕ) (v : Bool) → i < length atoms → value_in part i ≡ is v
    → In (mark (atom_at atoms i) v) (marks_of atoms part)
mark_there [] part i v l e = absurd (omega arith)
mark_there (a ∷ atoms) [] i v l e = no_value v e
mark_there (a ∷ atoms) (is b ∷ part) zero v l e = subst (λ (t : Three). In (mark a v) (marks_of (a ∷ atoms) (t ∷ part))) (sym e) here
mark_there (a ∷ atoms) (unknown ∷ part) zero v l e = no_value v e
mark_there (a ∷ atoms) (is b ∷ part) (suc i) v l e = next (mark_there atoms part i v (omega arith) e)
mark_there (a ∷ atoms) (unknown ∷ part) (suc i) v l e = mark_there atoms part i v (omega arith) e

-- a false contact or a true zero atom restricts
mark_restricts : (a : Atom ℕ) (v : Bool) → restricts (mark a v) ≡ differs v (is_contact a)
mark_restricts (Atom.contact s t) true = refl
mark_restricts (Atom.contact s t) false = refl
mark_restricts (Atom.part s t) true = refl
mark_restricts (Atom.part s t) false = refl
mark_restricts (Atom.empty t) true = refl
mark_restricts (Atom.empty t) false = refl

module _ (names : ℕ) (atoms : List (Atom ℕ)) (few : length atoms ≤ 16) (contacts : ℕ) (c : Contacts atoms contacts) (ws : List ℕ)
    (v : Serving names atoms ws) (b : Branch) (part : PartialRow) (h : IsBranch (length atoms) b part) where
  abbrev n : ℕ
  n = length atoms

  abbrev ms : List Mark
  ms = marks_of atoms part

  -- the restricted atoms, what they leave, and the demanded atoms
  abbrev R : ℕ
  R = bit_and b.known (bit_xor b.truth contacts)

  abbrev left : ℕ
  left = 4294967295 - R

  abbrev wanted : ℕ
  wanted = bit_or (bit_and b.known left) 65536

  wide : (x : ℕ) → x < 2 ^ n → x < 4294967296
  wide x l = omega (arith, pow_mono {i = n} {j = 16} few)

  known_small : b.known < 4294967296
  known_small = wide b.known h.known_is.small

  R-small : R < 4294967296
  R-small = omega (arith, and_le_l b.known (bit_xor b.truth contacts), known_small)

  wanted_small : wanted < 4294967296
  wanted_small =
      or_lt 32 (bit_and b.known left) 65536 (omega (arith, and_le_l b.known left, known_small)) (omega arith)

  -- ---- bits: that of atom i is n - 1 - i

  module _ (p : ℕ) (l : p < n) where
    abbrev i : ℕ
    i = n - 1 - p

    restricted_bit : (u : Bool) → value_in part i ≡ is u → bit R p ≡ restricts (mark (atom_at atoms i) u)
    restricted_bit u e =
        bit_and_lem b.known (bit_xor b.truth contacts) p
        ∙ ap₂ ◌&&◌ (h.known_is.bits p l ∙ ap (λ (t : Three). not (is_unknown t)) e)
        (bit_xor_lem b.truth contacts p ∙ ap₂ differs (h.truth_is.bits p l ∙ ap is_true e) (c.bits p l))
        ∙ sym (mark_restricts (atom_at atoms i) u)

    left_bit : bit left p ≡ not (bit R p)
    left_bit = bit_not 32 R p R-small (omega arith)

  demanded_bit : (p : ℕ) → bit (bit_and b.known left) p ≡ (bit b.known p && not (bit R p))
  demanded_bit p = bit_minus 32 b.known R p known_small R-small

  wanted_bit : (p : ℕ) → bit wanted p ≡ (bit (bit_and b.known left) p || eqb p 16)
  wanted_bit p = bit_add 32 (bit_and b.known left) 16 p (omega arith)

  -- what is known is an atom's value
  known_value : (p : ℕ) → bit b.known p ≡ true → (p < n) × ((u : Bool) × (value_in part (n - 1 - p) ≡ is u))
  known_value p k =
      ⊎_elim (λ l. (l, decided (value_in part (n - 1 - p)) (sym (h.known_is.bits p l) ∙ k)))
      (λ l. clash k (bit_above n b.known p h.known_is.small l)) (side p n)
    where
      decided : (t : Three) → not (is_unknown t) ≡ true → (u : Bool) × (t ≡ is u)
      decided (is u) e = (u, refl)
      decided unknown e = clash e refl

  -- the bit of atom i
  module _ (i : ℕ) (l : i < n) where
    abbrev at : ℕ
    at = n - 1 - i

    back : n - 1 - at ≡ i
    back = omega arith

    value_at : (u : Bool) → value_in part i ≡ is u → value_in part (n - 1 - at) ≡ is u
    value_at u e = ap (value_in part) back ∙ e

    mark_at : (u : Bool) → mark (atom_at atoms (n - 1 - at)) u ≡ mark (atom_at atoms i) u
    mark_at u = ap (λ (x : ℕ). mark (atom_at atoms x) u) back

  -- ---- a pair is left exactly if its word is

  module _ (e f w : ℕ) (word : IsWord atoms e f w) where
    served_bit : (p : ℕ) → p < n → (u : Bool) → bit w p ≡ serves e f (mark (atom_at atoms (n - 1 - p)) u)
    served_bit p l u = word.bits p l ∙ serves_any e f (atom_at atoms (n - 1 - p)) u

    lives_left : lives ms e f ≡ true → within left w ≡ true
    unfolding lives
    lives_left k =
        within_intro left w (wide w word.small) (omega (arith, R-small)) (λ p on.
        ⊎_elim
        (λ l. left_bit p l ∙ cases (bit R p)
        (λ r. let d = known_value p ((and-eq-true_iff (bit b.known p) _).0 (sym (bit_and_lem b.known (bit_xor b.truth contacts) p) ∙ r)).0 in
        let u = d.1.0 in
        clash (and_intro (sym (restricted_bit p l u d.1.1) ∙ r) (sym (served_bit p l u) ∙ on))
        (none_elim (λ m. restricts m && serves e f m) (not-true _ k) (mark_there atoms part (n - 1 - p) u (omega arith) d.1.1)))
        (λ r. ap not r))
        (λ l. clash on (bit_above n w p word.small l)) (side p n))

    left_lives : within left w ≡ true → lives ms e f ≡ true
    unfolding lives
    left_lives k =
        ap not (none_intro (λ m. restricts m && serves e f m) ms (λ m j both.
        let q = part_mark atoms part j in
        let i = q.0 in
        let u = q.1 in
        let l : i < n = q.2 in
        let p : ℕ = n - 1 - i in
        let lp : p < n = omega arith in
        let s = (and-eq-true_iff (restricts m) (serves e f m)).0 both in
        let z : m ≡ mark (atom_at atoms (n - 1 - p)) u = q.4 ∙ sym (mark_at i l u) in
        clash (within_elim left w (wide w word.small) (omega (arith, R-small)) k p (served_bit p lp u ∙ ap (serves e f) (sym z) ∙ s.1))
        (left_bit p lp ∙ ap not (restricted_bit p lp u (value_at i l u q.3) ∙ ap restricts (sym z) ∙ s.0))))

  -- ---- the test

  module _ (S : ℕ) (S-small : S < 4294967296) (S-is : (p : ℕ) → bit S p ≡ served_by left ws p) where
    -- a word that is left, with a wanted bit
    wanted_word : within S wanted ≡ true → (p : ℕ) → bit wanted p ≡ true
        → (e : ℕ) × (f : ℕ) × (may names e ≡ true) × (may names f ≡ true) × (lives ms e f ≡ true) × ((w : ℕ) × IsWord atoms e f w × ((bit w p || eqb p 16) ≡ true))
    unfolding served_by
    wanted_word k p on =
        let x = any_elim (λ w. within left w && (bit w p || eqb p 16)) ws (sym (S-is p) ∙ within_elim S wanted wanted_small S-small k p on) in
        let y = (and-eq-true_iff (within left x.0) (bit x.0 p || eqb p 16)).0 x.2 in
        let q = v.each x.1 in
        (q.0, q.1, q.2, q.3, left_lives q.0 q.1 x.0 q.4 y.0, (x.0, q.4, y.1))

    test_check : within S wanted ≡ true → pair_check names ms ≡ true
    unfolding pair_check served
    test_check k =
        and_intro
        (let x = wanted_word k 16 (wanted_bit 16 ∙ or_inr (bit (bit_and b.known left) 16) (eqb 16 16) refl) in
        pair_intro names (lives ms) x.0 x.1 x.2 x.3 x.4)
        (all_intro (λ m. restricts m || some_pair names (λ e f. lives ms e f && serves e f m)) ms (λ m j.
        let q = part_mark atoms part j in
        let i = q.0 in
        let u = q.1 in
        let l : i < n = q.2 in
        let p : ℕ = n - 1 - i in
        let lp : p < n = omega arith in
        let z : m ≡ mark (atom_at atoms (n - 1 - p)) u = q.4 ∙ sym (mark_at i l u) in
        cases (restricts m)
        (λ r. or_inl (restricts m) _ r)
        (λ r. let on : bit wanted p ≡ true =
        wanted_bit p ∙ or_inl (bit (bit_and b.known left) p) (eqb p 16)
        (demanded_bit p ∙ and_intro (h.known_is.bits p lp ∙ ap (λ (t : Three). not (is_unknown t)) (value_at i l u q.3))
        (ap not (restricted_bit p lp u (value_at i l u q.3) ∙ ap restricts (sym z) ∙ r))) in
        let x = wanted_word k p on in
        let bit-on : bit x.5.0 p ≡ true =
        ⊎_elim (λ t. t) (λ t. clash t (ne_eqb p 16 (λ y. omega arith))) (or_cases (bit x.5.0 p) (eqb p 16) x.5.2) in
        or_inr (restricts m) _
        (pair_intro names (λ e f. lives ms e f && serves e f m) x.0 x.1 x.2 x.3
        (and_intro x.4 (ap (serves x.0 x.1) z ∙ sym (served_bit x.0 x.1 x.5.0 x.5.1 p lp u) ∙ bit-on))))))

    -- a pair that is left, and serves a bit
    pair_word : (p e f : ℕ) → may names e ≡ true → may names f ≡ true → lives ms e f ≡ true
        → ((w : ℕ) → IsWord atoms e f w → (bit w p || eqb p 16) ≡ true) → bit S p ≡ true
    unfolding served_by
    pair_word p e f le lf k on =
        let w = v.every e f le lf in
        S-is p
        ∙ any_intro (λ w. within left w && (bit w p || eqb p 16)) w.1 (and_intro (lives_left e f w.0 w.2 k) (on w.0 w.2))

    check_test : pair_check names ms ≡ true → within S wanted ≡ true
    unfolding pair_check served
    check_test k =
        let both = (and-eq-true_iff (some_pair names (lives ms)) (all (λ m. restricts m || some_pair names (λ e f. lives ms e f && serves e f m)) ms)).0 k in
        within_intro S wanted wanted_small S-small (λ p on.
        ⊎_elim
        (λ t. let kr = (and-eq-true_iff (bit b.known p) (not (bit R p))).0 (sym (demanded_bit p) ∙ t) in
        let d = known_value p kr.0 in
        let l : p < n = d.0 in
        let u = d.1.0 in
        let m = mark (atom_at atoms (n - 1 - p)) u in
        ⊎_elim
        (λ r. clash (restricted_bit p l u d.1.1 ∙ r) (not-true _ kr.1))
        (λ r. let x = pair_elim names (λ e f. lives ms e f && serves e f m) r in
        let y = (and-eq-true_iff (lives ms x.0 x.1) (serves x.0 x.1 m)).0 x.4 in
        pair_word p x.0 x.1 x.2 x.3 y.0
        (λ w word. or_inl (bit w p) (eqb p 16) (served_bit x.0 x.1 w word p l u ∙ y.1)))
        (or_cases (restricts m) (some_pair names (λ e f. lives ms e f && serves e f m))
        (all_elim (λ m. restricts m || some_pair names (λ e f. lives ms e f && serves e f m))
        (mark_there atoms part (n - 1 - p) u (omega arith) d.1.1) both.1)))
        (λ t. let x = pair_elim names (lives ms) both.0 in
        pair_word p x.0 x.1 x.2 x.3 x.4 (λ w word. or_inr (bit w p) (eqb p 16) t))
        (or_cases (bit (bit_and b.known left) p) (eqb p 16) (sym (wanted_bit p) ∙ on)))

    pub floor_is : within S wanted ≡ check names ms
    floor_is =
        partial_order_laws.le_antisymm (within S wanted) (pair_check names ms) test_check check_test ∙ sym (check_pairs names ms)
