-- The word of a pair has exactly the bits of the atoms that the pair serves, and a row's word those that it demands; for rows of
-- some of the atoms too. Assumes nothing.
use mathlib.Core.Bool.{Bool, true, false, not, ◌&&◌, ◌||◌, or_comm}
use mathlib.Core.Path.{◌≡◌, refl, sym, ap, ap₂, ◌∙◌, subst}
use mathlib.Core.List.{List, [], ◌∷◌}
use mathlib.Core.Logic.{⊎_elim}
use Prim.Native.Nat.{ℕ, suc, ◌+◌, ◌-◌, ◌/◌, ◌%◌, ◌^◌, ◌≤◌, ◌<◌}
use native.Mathlib.Nat.{div-add-mod'}
use native.Mathlib.Omega.{arith}
use lib.Bits.{bit_and, bit_or, bit_xor, xor_lt, or_lt, or_shr, or_zero_r, and_le_l}
use lib.ListN.{length, get_or}
use lib.Pow.{shr_lt}
use Rattle.formula.specs.Atoms.{is_contact}
use Rattle.formula.specs.Formula.{Atom}
use Rattle.lists.specs.Search.{In}
use Rattle.lists.proofs.Search.{none_in, uncons}
use Rattle.evalset.specs.Bit.{bit}
use Rattle.evalset.specs.Sets.{mem_at}
use Rattle.evalset.proofs.Bits.{bit_xor_lem, bit_or_lem, bit_and_lem, bit_not, bit_above, bit_shr}
use Rattle.contact.specs.Row.{Row}
use Rattle.contact.specs.Meaning.{part_term}
use Rattle.contact.specs.Plan.{at, Mark, touching, apart, vacant, inhabited, mark, row_marks}
use Rattle.contact.specs.Pairs.{serves, restricts}
use Rattle.search.specs.declared.Chart.{Chart}
use Rattle.search.specs.Rows.{row_bits}
use Rattle.search.specs.Compiled.{Compiled, AtomIs, atom_at, contact_at}
use Rattle.search.proofs.Rows.{row_length, row_at, mark_in}
use Rattle.pairing.specs.Words.{Spelt, Contacts, serves_at, IsWord}
use Rattle.pairing.specs.Masks.{MaskIs, pair_word}
use Rattle.pairing.proofs.Words.{differs, bit_lower, spelt_few}

-- ---- the bits of a pair's word

high_bit : (m p : ℕ) → bit m (16 + p) ≡ bit (m / 65536) p
high_bit m p = sym (bit_shr m 16 p)

low_bit : (m p : ℕ) → p < 16 → bit m p ≡ bit (m % 65536) p
low_bit m p l = ap (λ (x : ℕ). bit x p) (sym (div-add-mod' m 65536)) ∙ bit_lower 16 (m / 65536) (m % 65536) p l

module _ (zeros a b p : ℕ) where
  either_bit : (q : ℕ) → bit (bit_or (bit_or a zeros) b) q ≡ ((bit a q || bit zeros q) || bit b q)
  either_bit q = bit_or_lem (bit_or a zeros) b q ∙ ap (λ (x : Bool). x || bit b q) (bit_or_lem a zeros q)

  pair_bit : bit (pair_word zeros a b) p ≡ (((bit a (16 + p) || bit zeros (16 + p)) || bit b (16 + p)) && ((bit a p || bit zeros p) || bit b p))
  unfolding pair_word
  pair_bit =
      bit_and_lem (bit_or (bit_or a zeros) b / 2 ^ 16) (bit_or (bit_or a zeros) b) p
      ∙ ap₂ ◌&&◌ (bit_shr (bit_or (bit_or a zeros) b) 16 p ∙ either_bit (16 + p)) (either_bit p)

-- the zero atoms' bits are those that the contacts do not have
module _ (contacts p : ℕ) (small : contacts < 65536) where
  zeros_high : bit (65535 - contacts) (16 + p) ≡ false
  zeros_high = bit_above 16 (65535 - contacts) (16 + p) (omega arith) (omega arith)

  zeros_low : p < 16 → bit (65535 - contacts) p ≡ not (bit contacts p)
  zeros_low l = bit_not 16 contacts p small l

-- a contact's bits, from x and y at e and at f
contact_bits : (a b c d : Bool) → (((a || false) || c) && ((b || false) || d)) ≡ (((a && d) || (c && b)) || ((a && b) || (c && d)))
contact_bits true true true true = refl
contact_bits true true true false = refl
contact_bits true true false true = refl
contact_bits true true false false = refl
contact_bits true false true true = refl
contact_bits true false true false = refl
contact_bits true false false true = refl
contact_bits true false false false = refl
contact_bits false true true true = refl
contact_bits false true true false = refl
contact_bits false false true true = refl
contact_bits false false true false = refl
contact_bits false b false d = refl

zero_bits : (a b c d : Bool) → (((a || false) || c) && ((b || true) || d)) ≡ (a || c)
zero_bits true true c d = refl
zero_bits true false c d = refl
zero_bits false true true d = refl
zero_bits false false true d = refl
zero_bits false b false d = refl

-- from the chart's sets to the terms
sets_serve : (names : ℕ) (c : Bool) (x y : ℕ → Bool) (atom : Atom ℕ) → AtomIs names c x y atom → (v : Bool) (e f : ℕ) → e < 2 ^ names → f < 2 ^ names
    → (((x e || false) || x f) && ((y e || not c) || y f)) ≡ serves e f (mark atom v)
sets_serve names c x y (Atom.contact s t) (z, h, k) v e f le lf =
    ap (λ (b : Bool). ((x e || false) || x f) && ((y e || not b) || y f)) z
    ∙ contact_bits (x e) (y e) (x f) (y f)
    ∙ ap₂ (λ (a b : Bool). ((a && y f) || (x f && b)) || ((a && b) || (x f && y f))) (h e le) (k e le)
    ∙ ap₂ (λ (a b : Bool). ((at s e && b) || (a && at t e)) || ((at s e && at t e) || (a && b))) (h f lf) (k f lf)
    ∙ same v
  where
    same : (v : Bool) → serves e f (touching s t) ≡ serves e f (mark (Atom.contact s t) v)
    same true = refl
    same false = refl
sets_serve names c x y (Atom.part s t) (z, h) v e f le lf =
    ap (λ (b : Bool). ((x e || false) || x f) && ((y e || not b) || y f)) z
    ∙ zero_bits (x e) (y e) (x f) (y f) ∙ ap₂ ◌||◌ (h e le) (h f lf) ∙ same v
  where
    same : (v : Bool) → serves e f (vacant (part_term s t)) ≡ serves e f (mark (Atom.part s t) v)
    same true = refl
    same false = refl
sets_serve names c x y (Atom.empty t) (z, h) v e f le lf =
    ap (λ (b : Bool). ((x e || false) || x f) && ((y e || not b) || y f)) z
    ∙ zero_bits (x e) (y e) (x f) (y f) ∙ ap₂ ◌||◌ (h e le) (h f lf) ∙ same v
  where
    same : (v : Bool) → serves e f (vacant t) ≡ serves e f (mark (Atom.empty t) v)
    same true = refl
    same false = refl

-- ---- the word of two masks

-- it has no atom that is in neither high half
pub pair_small : (n contacts a b : ℕ) → contacts < 65536 → a / 65536 < 2 ^ n → b / 65536 < 2 ^ n → pair_word (65535 - contacts) a b < 2 ^ n
unfolding pair_word
pair_small n contacts a b small la lb = go (bit_and (either / 2 ^ 16) either) (and_le_l (either / 2 ^ 16) either)
  where
    zeros : ℕ
    zeros = 65535 - contacts

    either : ℕ
    either = bit_or (bit_or a zeros) b

    none : zeros / 2 ^ 16 ≡ 0
    none = omega arith

    halves : either / 2 ^ 16 ≡ bit_or (a / 65536) (b / 65536)
    halves =
        or_shr (bit_or a zeros) b 16
        ∙ ap (λ (z : ℕ). bit_or z (b / 65536)) (or_shr a zeros 16 ∙ ap (bit_or (a / 65536)) none ∙ or_zero_r (a / 65536))

    go : (w : ℕ) → w ≤ either / 2 ^ 16 → w < 2 ^ n
    go w l = omega (arith, halves, or_lt n (a / 65536) (b / 65536) la lb)

module _ (chart : Chart) (contacts a b e f : ℕ) (few : chart.atoms ≤ 16) (c : Spelt chart.atoms (contact_at chart) contacts)
    (x : MaskIs chart.xs chart.ys chart.atoms e a) (y : MaskIs chart.xs chart.ys chart.atoms f b) where
  abbrev zeros : ℕ
  zeros = 65535 - contacts

  small : contacts < 65536
  small = spelt_few (contact_at chart) chart.atoms contacts c few

  module _ (atoms : List (Atom ℕ)) (h : Compiled chart atoms) (le : e < 2 ^ chart.names) (lf : f < 2 ^ chart.names) where
    pair_bits : (p : ℕ) → p < chart.atoms → bit (pair_word zeros a b) p ≡ serves_at atoms e f (chart.atoms - 1 - p)
    pair_bits p l =
        let i : ℕ = chart.atoms - 1 - p in
        let lp : p < 16 = omega arith in
        pair_bit zeros a b p
        ∙ ap₂ (λ (u v : Bool). ((u || bit zeros (16 + p)) || v) && ((bit a p || bit zeros p) || bit b p)) (high_bit a p ∙ x.first_is.bits p l)
        (high_bit b p ∙ y.first_is.bits p l)
        ∙ ap₂ (λ (u v : Bool). ((mem_at chart.xs i e || bit zeros (16 + p)) || mem_at chart.xs i f) && ((u || bit zeros p) || v))
        (low_bit a p lp ∙ x.second_is.bits p l) (low_bit b p lp ∙ y.second_is.bits p l)
        ∙ ap₂ (λ (u v : Bool). ((mem_at chart.xs i e || u) || mem_at chart.xs i f) && ((mem_at chart.ys i e || v) || mem_at chart.ys i f))
        (zeros_high contacts p small) (zeros_low contacts p small lp ∙ ap not (c.bits p l))
        ∙ sets_serve chart.names (contact_at chart i) (mem_at chart.xs i) (mem_at chart.ys i) (atom_at atoms i) (h.atom_is i (omega (arith, h.counted))) true e f le lf

    pub pair_spelt : IsWord atoms e f (pair_word zeros a b)
    pair_spelt = subst (λ (n : ℕ). Spelt n (serves_at atoms e f) (pair_word zeros a b)) h.counted (record { small = pair_small chart.atoms contacts a b small x.first_is.small y.first_is.small; bits = pair_bits })

-- the pair the other way round
pub serves_turned : (e f : ℕ) (m : Mark) → serves e f m ≡ serves f e m
serves_turned e f (touching x y) = ap₂ ◌||◌ (or_comm (at x e && at y f) (at x f && at y e)) (or_comm (at x e && at y e) (at x f && at y f))
serves_turned e f (apart x y) = ap₂ ◌||◌ (or_comm (at x e && at y f) (at x f && at y e)) (or_comm (at x e && at y e) (at x f && at y f))
serves_turned e f (vacant t) = or_comm (at t e) (at t f)
serves_turned e f (inhabited t) = or_comm (at t e) (at t f)

pub word_turned : (atoms : List (Atom ℕ)) (e f w : ℕ) → IsWord atoms e f w → IsWord atoms f e w
word_turned atoms e f w s =
    record { small = s.small; bits = λ p l. s.bits p l ∙ serves_turned e f (mark (atom_at atoms (length atoms - 1 - p)) true) }

-- what a pair serves does not depend on the value
pub serves_any : (e f : ℕ) (a : Atom ℕ) (v : Bool) → serves e f (mark a true) ≡ serves e f (mark a v)
serves_any e f (Atom.contact x y) true = refl
serves_any e f (Atom.contact x y) false = refl
serves_any e f (Atom.part x y) true = refl
serves_any e f (Atom.part x y) false = refl
serves_any e f (Atom.empty t) true = refl
serves_any e f (Atom.empty t) false = refl

-- whether an atom's mark restricts
atom_restricts : (a : Atom ℕ) (b : Bool) → restricts (mark a (not b)) ≡ not (differs b (is_contact a))
atom_restricts (Atom.contact s t) true = refl
atom_restricts (Atom.contact s t) false = refl
atom_restricts (Atom.part s t) true = refl
atom_restricts (Atom.part s t) false = refl
atom_restricts (Atom.empty t) true = refl
atom_restricts (Atom.empty t) false = refl

-- the chart's contacts are the atoms'
pub contact_is : (names : ℕ) (c : Bool) (x y : ℕ → Bool) (a : Atom ℕ) → AtomIs names c x y a → c ≡ is_contact a
contact_is names c x y (Atom.contact s t) (z, h, k) = z
contact_is names c x y (Atom.part s t) (z, h) = z
contact_is names c x y (Atom.empty t) (z, h) = z

pub contacts_spelt : (chart : Chart) (atoms : List (Atom ℕ)) (w : ℕ) → Compiled chart atoms → Spelt chart.atoms (contact_at chart) w → Contacts atoms w
contacts_spelt chart atoms w h s =
    subst (λ (x : ℕ). Spelt x (λ i. is_contact (atom_at atoms i)) w) h.counted
    (record { small = s.small; bits = λ p l. s.bits p l ∙ contact_is chart.names _ _ _ (atom_at atoms (chart.atoms - 1 - p)) (h.atom_is _ (omega (arith, h.counted))) })

-- ---- a word without its last atoms

pub spelt_shifted : (n s k : ℕ) (f : ℕ → Bool) (w : ℕ) → k + s ≡ n → Spelt n f w → Spelt k f (w / 2 ^ s)
spelt_shifted n s k f w z h =
    record {
      small = shr_lt k s (subst (λ (x : ℕ). w < 2 ^ x) (sym z) h.small);
      bits = λ p l. let y : n - 1 - (s + p) ≡ k - 1 - p = omega arith in bit_shr w s p ∙ h.bits (s + p) (omega arith) ∙ ap f y;
    }

-- ---- the marks of a row by the numbers of their atoms

pub mark_number : (atoms : List (Atom ℕ)) (row : Row) {m : Mark} → length row ≤ length atoms → In m (row_marks atoms row)
    → (i : ℕ) × (i < length row) × (m ≡ mark (atom_at atoms i) (get_or row i false))
mark_number [] row l i = none_in i
mark_number (a ∷ atoms) [] l i = none_in i
mark_number (a ∷ atoms) (b ∷ row) l i =
    ⊎_elim (λ q. (0, omega arith, q)) (λ j. let r = mark_number atoms row (omega arith) j in (suc r.0, omega (arith, r.1), r.2)) (uncons i)

-- ---- a row of k atoms

module _ (atoms : List (Atom ℕ)) (k s row contacts : ℕ) (whole : k + s ≡ length atoms) (c : Contacts atoms contacts) (small : row < 2 ^ k) where
  -- the row's demanded atoms
  abbrev T : ℕ
  T = bit_xor row (contacts / 2 ^ s)

  -- the mark of bit p
  abbrev mark_at : ℕ → Mark
  mark_at p = mark (atom_at atoms (k - 1 - p)) (get_or (row_bits k row) (k - 1 - p) false)

  short : Spelt k (λ i. is_contact (atom_at atoms i)) (contacts / 2 ^ s)
  short = spelt_shifted (length atoms) s k (λ i. is_contact (atom_at atoms i)) contacts whole c

  pub row_word_small : T < 2 ^ k
  row_word_small = xor_lt k row (contacts / 2 ^ s) small short.small

  pub marks_there : (p : ℕ) → p < k → In (mark_at p) (row_marks atoms (row_bits k row))
  marks_there p l = mark_in atoms (row_bits k row) (k - 1 - p) (omega (arith, row_length k row)) (omega (arith, row_length k row))

  pub mark_bit : {m : Mark} → In m (row_marks atoms (row_bits k row)) → (p : ℕ) × (p < k) × (m ≡ mark_at p)
  mark_bit i =
      let r = mark_number atoms (row_bits k row) (omega (arith, row_length k row)) i in
      let l : r.0 < k = omega (arith, r.1, row_length k row) in
      let z : r.0 ≡ k - 1 - (k - 1 - r.0) = omega arith in
      (k - 1 - r.0, omega arith, r.2 ∙ ap (λ (x : ℕ). mark (atom_at atoms x) (get_or (row_bits k row) x false)) z)

  pub restricts_bit : (p : ℕ) → p < k → restricts (mark_at p) ≡ not (bit T p)
  restricts_bit p l =
      let i : ℕ = k - 1 - p in
      let z : k - 1 - i ≡ p = omega arith in
      ap (λ (v : Bool). restricts (mark (atom_at atoms i) v)) (row_at k row i (omega arith) ∙ ap (λ (x : ℕ). not (bit row x)) z)
      ∙ atom_restricts (atom_at atoms i) (bit row p)
      ∙ ap (λ (b : Bool). not (differs (bit row p) b)) (sym (short.bits p l)) ∙ ap not (sym (bit_xor_lem row (contacts / 2 ^ s) p))

  -- the pair's word without its last atoms, and the row's word
  module _ (e f w : ℕ) (s-is : IsWord atoms e f w) where
    short_word : Spelt k (serves_at atoms e f) (w / 2 ^ s)
    short_word = spelt_shifted (length atoms) s k (serves_at atoms e f) w whole s-is

    pub short_small : w / 2 ^ s < 2 ^ k
    short_small = short_word.small

    pub serves_bit : (p : ℕ) → p < k → bit (w / 2 ^ s) p ≡ serves e f (mark_at p)
    serves_bit p l = short_word.bits p l ∙ serves_any e f (atom_at atoms (k - 1 - p)) (get_or (row_bits k row) (k - 1 - p) false)
