-- The search for an atom among those that are kept: its row matches exactly those that are the same, by the laws of rows and of atoms, so
-- the first that matches stands at its place. Assumes nothing.
use mathlib.Core.Bool.{Bool, true, false, cond, beq}
use mathlib.Core.Path.{◌≡◌, sym, ap, ◌∙◌}
use mathlib.Core.Logic.{inl, inr, ⊎_elim}
use mathlib.Core.List.{List, [], ◌++◌, append-nil}
use mathlib.Mathlib.Data.Bool.Basic.{eq-false_of_not-eq-true}
use Prim.Native.Nat.{ℕ, suc, ◌+◌, ◌≤◌, ◌<◌}
use native.Mathlib.Decide.{ℕ_discrete}
use native.Mathlib.Omega.{arith}
use lib.ListN.{length, get_or, take, drop, drop_of_length-le}
use lib.Seq.{length-take-le}
use Rattle.formula.specs.Formula.{Atom}
use Rattle.formula.specs.Atoms.{is_contact}
use Rattle.formula.specs.Same.{exchanged, same_atom}
use Rattle.lists.proofs.Lists.{rest}
use Rattle.lists.proofs.Truth.{clash, beq_same, beq_self}
use Rattle.contact.specs.Numbering.{position}
use Rattle.search.specs.Compiled.{no_atom, atom_at}
use Rattle.spelling.specs.Symbols.{spelled, symbols_of}
use Rattle.spelling.specs.Kept.{symbol_at, Keeps, Spells, Numbers}
use Rattle.spelling.specs.Comparing.{Starts, Turned, Matches}
use Rattle.spelling.proofs.Atoms.{atom_determined, same_cases, same_equal, same_exchanged, same_sign, same_long}
use Rattle.spelling.proofs.Second.{spelled_some}
use Rattle.spelling.proofs.Rows.{agree_list, list_agree, turned_list, list_turned}

-- how many symbols a row has
pub spells_long : {row : List ℕ} {len : ℕ} {contact : Bool} {a : Atom ℕ} → Spells row len contact a → len ≡ length (symbols_of a)
spells_long {row} {len} h = sym (length-take-le len row h.within) ∙ ap length h.row_is

-- ---- one atom that is kept

-- the symbols of two terms
two : (xs ys : List ℕ) → xs ++ (ys ++ []) ≡ xs ++ ys
two xs ys = ap (λ (l : List ℕ). xs ++ l) (append-nil ys)

-- a row of atom a, and the symbols of atom b, of the same length and sign, at place j
module _ (kept : List ℕ) (j : ℕ) (row : List ℕ) (len : ℕ) (contact : Bool) (b : Atom ℕ) (long : length (symbols_of b) ≡ len)
    (there : (i : ℕ) → i < length (symbols_of b) → symbol_at kept j i ≡ get_or (symbols_of b) i 0)
    (second : ℕ) (starts : Starts row (cond contact len 0) second) where
  -- the two terms of a contact exchanged
  turned_same : (a : Atom ℕ) → Spells row len contact a → is_contact b ≡ is_contact a → Turned kept j row len second → same_atom ℕ_discrete b a ≡ true
  turned_same (Atom.contact s t) h e m =
      let parts : take len row ≡ spelled s ++ spelled t = h.row_is ∙ two (spelled s) (spelled t) in
      let at : second ≡ length (spelled s) =
      starts.second s t (ap (λ (c : Bool). take (cond c len 0) row) h.sign ∙ parts) in
      let r = turned_list kept j row len h.within (symbols_of b) long there (spelled s) (spelled t) parts second at m in
      same_exchanged b (Atom.contact s t) (ap exchanged (atom_determined b (Atom.contact t s) e (sym r ∙ sym (two (spelled t) (spelled s)))))
  turned_same (Atom.part s t) h e m = absurd (omega (arith, m.some, starts.none (ap (λ (c : Bool). cond c len 0) h.sign)))
  turned_same (Atom.empty t) h e m = absurd (omega (arith, m.some, starts.none (ap (λ (c : Bool). cond c len 0) h.sign)))

  pub match_same : (a : Atom ℕ) → Spells row len contact a → is_contact b ≡ is_contact a → Matches kept j row len second → same_atom ℕ_discrete b a ≡ true
  match_same a h e m =
      ⊎_elim (λ g. same_equal b a (atom_determined b a e (sym (agree_list kept j row len h.within (symbols_of b) long there g) ∙ h.row_is)))
      (turned_same a h e) m

  equal_match : (a : Atom ℕ) → Spells row len contact a → b ≡ a → Matches kept j row len second
  equal_match a h e = inl (list_agree kept j row len h.within (symbols_of b) long there (h.row_is ∙ sym (ap symbols_of e)))

pub same_match : (kept : List ℕ) (j : ℕ) (row : List ℕ) (len : ℕ) (contact : Bool) (b : Atom ℕ) → length (symbols_of b) ≡ len
    → ((i : ℕ) → i < length (symbols_of b) → symbol_at kept j i ≡ get_or (symbols_of b) i 0) → (second : ℕ) → Starts row (cond contact len 0) second
    → (a : Atom ℕ) → Spells row len contact a → same_atom ℕ_discrete b a ≡ true → Matches kept j row len second
same_match kept j row len contact b long there second starts a h m =
    ⊎_elim (equal_match kept j row len contact b long there second starts a h) (turned b long there) (same_cases b a m)
  where
    turned : (y : Atom ℕ) → length (symbols_of y) ≡ len → ((i : ℕ) → i < length (symbols_of y) → symbol_at kept j i ≡ get_or (symbols_of y) i 0)
        → exchanged y ≡ a → Matches kept j row len second
    turned (Atom.contact u v) n g e =
        let parts : take len row ≡ spelled v ++ spelled u = h.row_is ∙ sym (ap symbols_of e) ∙ two (spelled v) (spelled u) in
        let sign : contact ≡ true = h.sign ∙ sym (ap is_contact e) in
        let at : second ≡ length (spelled v) =
        starts.second v u (ap (λ (c : Bool). take (cond c len 0) row) sign ∙ parts) in
        inr (list_turned kept j row len h.within (symbols_of (Atom.contact u v)) n g (spelled v) (spelled u) parts second at (spelled_some v) (sym (two (spelled u) (spelled v))))
    turned (Atom.part u v) n g e = equal_match kept j row len contact (Atom.part u v) n g second starts a h e
    turned (Atom.empty v) n g e = equal_match kept j row len contact (Atom.empty v) n g second starts a h e

-- ---- the atoms one after the other

abbrev same : Atom ℕ → Atom ℕ → Bool
same = same_atom ℕ_discrete

-- the atom's place among those that are left, counted from j, is its place among all
pub record Passed (kept lens : List ℕ) (contacts : List Bool) (many : ℕ) (row : List ℕ) (len : ℕ) (contact : Bool) (j : ℕ) : Type 0 where
  pub passed : (atoms : List (Atom ℕ)) (a : Atom ℕ) → many ≡ length atoms → Keeps kept lens contacts atoms → Spells row len contact a
      → j + position same (drop j atoms) a ≡ position same atoms a

module _ (kept lens : List ℕ) (contacts : List Bool) (many : ℕ) (row : List ℕ) (len : ℕ) (contact : Bool) where
  pub none_passed : Passed kept lens contacts many row len contact 0
  none_passed = record { passed = λ atoms a n k s. omega arith }

  module _ (j : ℕ) (h : j < many) (known : Passed kept lens contacts many row len contact j) where
    -- at an atom that is the same the place is found
    here : (atoms : List (Atom ℕ)) (a : Atom ℕ) → j < length atoms → same (atom_at atoms j) a ≡ true → position same (drop j atoms) a ≡ 0
    here atoms a l e =
        ap (λ (bs : List (Atom ℕ)). position same bs a) (rest atoms j no_atom l)
        ∙ ap (λ (b : Bool). cond b 0 (suc (position same (drop (j + 1) atoms) a))) e

    pub found : ((atoms : List (Atom ℕ)) (a : Atom ℕ) → many ≡ length atoms → Keeps kept lens contacts atoms → Spells row len contact a → same (atom_at atoms j) a ≡ true)
        → Numbers kept lens contacts many row len contact j
    unfolding Numbers
    found f atoms a n k s = omega (arith, known.passed atoms a n k s, here atoms a (omega arith) (f atoms a n k s))

    -- another is passed
    there : (atoms : List (Atom ℕ)) (a : Atom ℕ) → j < length atoms → same (atom_at atoms j) a ≡ false → position same (drop j atoms) a ≡ suc (position same (drop (j + 1) atoms) a)
    there atoms a l e =
        ap (λ (bs : List (Atom ℕ)). position same bs a) (rest atoms j no_atom l)
        ∙ ap (λ (b : Bool). cond b 0 (suc (position same (drop (j + 1) atoms) a))) e

    another : ((atoms : List (Atom ℕ)) (a : Atom ℕ) → many ≡ length atoms → Keeps kept lens contacts atoms → Spells row len contact a → same (atom_at atoms j) a ≡ true → ⊥)
        → Passed kept lens contacts many row len contact (j + 1)
    another f = record {
      passed = λ atoms a n k s.
          omega (arith, known.passed atoms a n k s, there atoms a (omega arith) (eq-false_of_not-eq-true (f atoms a n k s)));
    }

    -- one of another length, one of another sign, one that does not match
    pub other_length : (get_or lens j 0 ≡ len → ⊥) → Passed kept lens contacts many row len contact (j + 1)
    other_length f = another (λ atoms a n k s m. f (k.long j (omega arith) ∙ same_long (atom_at atoms j) a m ∙ sym (spells_long s)))

    pub other_sign : beq (get_or contacts j false) contact ≡ false → Passed kept lens contacts many row len contact (j + 1)
    other_sign f =
        another (λ atoms a n k s m.
        let e : get_or contacts j false ≡ contact = k.signs j (omega arith) ∙ same_sign (atom_at atoms j) a m ∙ sym s.sign in
        clash (ap (beq (get_or contacts j false)) (sym e) ∙ beq_self (get_or contacts j false)) f)

    module _ (second : ℕ) (starts : Starts row (cond contact len 0) second) (long : get_or lens j 0 ≡ len) where
      pub unmatched : (Matches kept j row len second → ⊥) → Passed kept lens contacts many row len contact (j + 1)
      unmatched f =
          another (λ atoms a n k s m. f (same_match kept j row len contact (atom_at atoms j) (sym (k.long j (omega arith)) ∙ long)
          (λ i l. k.symbols j i (omega arith) l) second starts a s m))

      pub matched : beq (get_or contacts j false) contact ≡ true → Matches kept j row len second → Numbers kept lens contacts many row len contact j
      matched sign m =
          found (λ atoms a n k s. match_same kept j row len contact (atom_at atoms j) (sym (k.long j (omega arith)) ∙ long)
          (λ i l. k.symbols j i (omega arith) l) second starts a s (sym (k.signs j (omega arith)) ∙ beq_same (get_or contacts j false) contact sign ∙ s.sign) m)

  -- none is left
  pub all_passed : (j : ℕ) → many ≤ j → j ≤ many → Passed kept lens contacts many row len contact j → Numbers kept lens contacts many row len contact many
  unfolding Numbers
  all_passed j h l known atoms a n k s =
      omega (arith, known.passed atoms a n k s, ap (λ (bs : List (Atom ℕ)). position same bs a) (drop_of_length-le atoms {i = j} (omega arith)))
