-- One atom more is kept: a byte has two symbols, each below 16, and a store of one byte leaves the others; so once the first bytes of the
-- atom are stored its first symbols stand there, and those of the atoms before it as they did. Assumes nothing.
use mathlib.Core.Bool.{Bool, true, false, cond}
use mathlib.Core.Path.{◌≡◌, refl, sym, ap, ap₂, subst, ◌∙◌}
use mathlib.Core.Logic.{⊎_elim}
use mathlib.Core.List.{List, [], ◌∷◌, ◌++◌}
use Prim.Native.Nat.{ℕ, ◌+◌, ◌*◌, ◌/◌, ◌%◌, ◌≤◌, ◌<◌}
use native.Mathlib.Omega.{arith}
use lib.Dec.{eqb, ltb}
use lib.ListN.{length, get_or, set, length-set, length-append, get_or-append}
use lib.Seq.{get_or-set_same, get_or-set_other, get_or-take, get_or_at}
use borrow.Author.Tests.{eq-eqb, ne_eqb, lt-ltb, ltb-true}
use Rattle.formula.specs.Formula.{Atom}
use Rattle.formula.specs.Atoms.{is_contact}
use Rattle.lists.proofs.Search.{placed}
use Rattle.lists.proofs.Truth.{side}
use Rattle.search.specs.Compiled.{no_atom, atom_at}
use Rattle.spelling.specs.Symbols.{symbols_of}
use Rattle.spelling.specs.Kept.{symbol_at, Keeps, Spells, Storing, Stores}
use Rattle.spelling.specs.Comparing.{symbol_in}
use Rattle.spelling.proofs.Scan.{spells_long}

-- ---- a symbol of a byte

module _ (kept : List ℕ) (j i : ℕ) where
  abbrev byte : ℕ
  byte = get_or kept (128 * j + i / 2) 0

  symbol_low : i % 2 ≡ 0 → symbol_at kept j i ≡ byte % 16
  unfolding symbol_at
  symbol_low e = ap (λ (b : Bool). cond b (byte % 16) (byte / 16)) (eq-eqb (i % 2) 0 e)

  symbol_high : (i % 2 ≡ 0 → ⊥) → symbol_at kept j i ≡ byte / 16
  unfolding symbol_at
  symbol_high e = ap (λ (b : Bool). cond b (byte % 16) (byte / 16)) (ne_eqb (i % 2) 0 e)

-- one byte stored elsewhere
symbol_kept : (kept : List ℕ) (n b j i : ℕ) → (128 * j + i / 2 ≡ n → ⊥) → symbol_at (set kept n b) j i ≡ symbol_at kept j i
unfolding symbol_at
symbol_kept kept n b j i e =
    ap (λ (x : ℕ). cond (eqb (i % 2) 0) (x % 16) (x / 16)) (get_or-set_other kept n (128 * j + i / 2) b 0 e)

-- ---- a row stored byte by byte

module _ (row : List ℕ) (len : ℕ) where
  symbol_in_lem : (i : ℕ) → i < len → symbol_in row len i ≡ get_or row i 0
  unfolding symbol_in
  symbol_in_lem i h = ap (λ (b : Bool). cond b (get_or row i 0) 0) (lt-ltb i len h)

  pub symbol_small : (kept : List ℕ) (number : ℕ) → Storing kept row len number → (i : ℕ) → symbol_in row len i < 16
  unfolding symbol_in
  symbol_small kept number h i = go (ltb i len) refl
    where
      go : (b : Bool) → ltb i len ≡ b → cond b (get_or row i 0) 0 < 16
      go true e = h.small i (ltb-true i len e)
      go false e = omega arith

  -- the first n bytes are stored
  pub record StoredTo (kept : List ℕ) (number n : ℕ) (out : List ℕ) : Type 0 where
    pub full : length out ≡ 2048
    pub there : (i : ℕ) → i < 2 * n → i < len → symbol_at out number i ≡ get_or row i 0
    pub elsewhere : (j i : ℕ) → j < number → i < 256 → symbol_at out j i ≡ symbol_at kept j i

  module _ (kept : List ℕ) (number : ℕ) where
    pub stored_none : length kept ≡ 2048 → StoredTo kept number 0 kept
    stored_none h = record { full = h; there = λ i l r. absurd (omega arith); elsewhere = λ j i l r. refl }

    pub stored_all : (n : ℕ) (out : List ℕ) → len ≤ 2 * n → StoredTo kept number n out → Stores kept row len number out
    stored_all n out h known = record { full = known.full; there = λ i l. known.there i (omega arith) l; elsewhere = known.elsewhere }

    module _ (h : Storing kept row len number) (n : ℕ) (out : List ℕ) (known : StoredTo kept number n out) (more : 2 * n < len) where
      abbrev both : ℕ
      both = symbol_in row len (2 * n) + 16 * symbol_in row len (2 * n + 1)

      here : (i : ℕ) → i / 2 ≡ n → get_or (set out (128 * number + n) both) (128 * number + i / 2) 0 ≡ both
      here i e =
          ap (λ (m : ℕ). get_or (set out (128 * number + n) both) (128 * number + m) 0) e
          ∙ get_or-set_same out (128 * number + n) both 0 (omega (arith, known.full, h.room, h.short))

      first : (i : ℕ) → i ≡ 2 * n → symbol_at (set out (128 * number + n) both) number i ≡ get_or row i 0
      first i e =
          let z : both % 16 ≡ symbol_in row len (2 * n) = omega (arith, symbol_small kept number h (2 * n), symbol_small kept number h (2 * n + 1)) in
          symbol_low (set out (128 * number + n) both) number i (omega arith) ∙ ap (λ (x : ℕ). x % 16) (here i (omega arith))
          ∙ z ∙ symbol_in_lem (2 * n) more ∙ ap (λ (m : ℕ). get_or row m 0) (sym e)

      second : (i : ℕ) → i ≡ 2 * n + 1 → i < len → symbol_at (set out (128 * number + n) both) number i ≡ get_or row i 0
      second i e l =
          let z : both / 16 ≡ symbol_in row len (2 * n + 1) = omega (arith, symbol_small kept number h (2 * n), symbol_small kept number h (2 * n + 1)) in
          symbol_high (set out (128 * number + n) both) number i (λ q. omega arith) ∙ ap (λ (x : ℕ). x / 16) (here i (omega arith))
          ∙ z ∙ symbol_in_lem (2 * n + 1) (omega arith) ∙ ap (λ (m : ℕ). get_or row m 0) (sym e)

      next : StoredTo kept number (n + 1) (set out (128 * number + n) both)
      next = record {
        full = length-set out (128 * number + n) both ∙ known.full;
        there = λ i l r. ⊎_elim
            (λ q. symbol_kept out (128 * number + n) both number i (λ z. omega arith) ∙ known.there i q r)
            (λ q. ⊎_elim (λ p. first i (omega arith)) (λ p. second i (omega arith) r) (side i (2 * n + 1)))
            (side i (2 * n));
        elsewhere = λ j i l r. symbol_kept out (128 * number + n) both j i (λ z. omega (arith, h.short)) ∙ known.elsewhere j i l r;
      }

      pub stored_more : (low high : ℕ) → low ≡ symbol_in row len (2 * n) → high ≡ symbol_in row len (2 * n + 1) → StoredTo kept number (n + 1) (set out (128 * number + n) (low + 16 * high))
      stored_more low high e f = subst (λ (b : ℕ). StoredTo kept number (n + 1) (set out (128 * number + n) b)) (sym (ap₂ (λ (x y : ℕ). x + 16 * y) e f)) next

-- ---- the atoms that are kept

-- the row of an atom may be stored
pub spells_storing : {kept row : List ℕ} {len number : ℕ} {contact : Bool} {a : Atom ℕ} → length kept ≡ 2048 → Spells row len contact a → number < 16
    → Storing kept row len number
spells_storing {kept} {row} {len} {number} {contact} {a} w h l = record {
  whole = w;
  room = l;
  short = h.short;
  small = λ i r. subst (λ (x : ℕ). x < 16) (sym (ap (λ (xs : List ℕ). get_or xs i 0) h.row_is) ∙ get_or-take len row i 0 r)
      (h.small (get_or (symbols_of a) i 0) (placed 0 (symbols_of a) i (omega (arith, spells_long h))));
}

-- no atom is kept
pub keeps_none : (kept lens : List ℕ) (contacts : List Bool) → length kept ≡ 2048 → Keeps kept lens contacts []
keeps_none kept lens contacts w = record {
  whole = w;
  few = omega arith;
  long = λ j h. absurd (omega arith);
  short = λ j h. absurd (omega arith);
  symbols = λ j i h l. absurd (omega arith);
  signs = λ j h. absurd (omega arith);
}

-- the atom is kept at place j
record KeptAt (kept lens : List ℕ) (contacts : List Bool) (j : ℕ) (a : Atom ℕ) : Type 0 where
  long : get_or lens j 0 ≡ length (symbols_of a)
  short : get_or lens j 0 ≤ 256
  symbols : (i : ℕ) → i < length (symbols_of a) → symbol_at kept j i ≡ get_or (symbols_of a) i 0
  sign : get_or contacts j false ≡ is_contact a

-- one atom more is kept, at the place that is its number
module _ (kept lens : List ℕ) (contacts : List Bool) (atoms : List (Atom ℕ)) (row : List ℕ) (len : ℕ) (contact : Bool) (a : Atom ℕ) (number : ℕ)
    (out : List ℕ) (signs : List Bool) (numbered : number ≡ length atoms) (keeps : Keeps kept lens contacts atoms) (few : number < 16) (lens-long : length lens ≡ 16)
    (spells : Spells row len contact a) (stores : Stores kept row len number out)
    (signs-are : (i : ℕ) → get_or signs i false ≡ cond (eqb i number) contact (get_or contacts i false)) where
  abbrev At : ℕ → Atom ℕ → Type 0
  At = KeptAt out (set lens number len) signs

  earlier : (j : ℕ) → j < number → At j (atom_at (atoms ++ a ∷ []) j)
  earlier j l =
      let other : get_or (set lens number len) j 0 ≡ get_or lens j 0 = get_or-set_other lens number j len 0 (λ e. omega arith) in
      subst (λ (x : Atom ℕ). At j x) (sym (get_or-append atoms (a ∷ []) no_atom j (omega arith)))
      (record {
        long = other ∙ keeps.long j (omega arith);
        short = omega (arith, keeps.short j (omega arith));
        symbols = λ i h. stores.elsewhere j i l (omega (arith, keeps.short j (omega arith), keeps.long j (omega arith))) ∙ keeps.symbols j i (omega arith) h;
        sign = signs-are j ∙ ap (λ (b : Bool). cond b contact (get_or contacts j false)) (ne_eqb j number (λ e. omega arith)) ∙ keeps.signs j (omega arith);
      })

  last : At number (atom_at (atoms ++ a ∷ []) number)
  last =
      let same : get_or (set lens number len) number 0 ≡ len = get_or-set_same lens number len 0 (omega arith) in
      subst (λ (x : Atom ℕ). At number x) (sym (get_or_at atoms a [] no_atom number (sym numbered)))
      (record {
        long = same ∙ spells_long spells;
        short = omega (arith, spells.short);
        symbols = λ i h. let r : i < len = omega (arith, spells_long spells) in
            stores.there i r ∙ sym (get_or-take len row i 0 r) ∙ ap (λ (xs : List ℕ). get_or xs i 0) spells.row_is;
        sign = signs-are number ∙ ap (λ (b : Bool). cond b contact (get_or contacts number false)) (eq-eqb number number refl) ∙ spells.sign;
      })

  each : (j : ℕ) → j < length (atoms ++ a ∷ []) → At j (atom_at (atoms ++ a ∷ []) j)
  each j h =
      ⊎_elim (earlier j)
      (λ l. let e : number ≡ j = omega (arith, length-append atoms (a ∷ [])) in subst (λ (k : ℕ). At k (atom_at (atoms ++ a ∷ []) k)) e last)
      (side j number)

  pub keeps_more : Keeps out (set lens number len) signs (atoms ++ a ∷ [])
  keeps_more = record {
    whole = stores.full;
    few = omega (arith, length-append atoms (a ∷ []));
    long = λ j h. (each j h).long;
    short = λ j h. (each j h).short;
    symbols = λ j i h. (each j h).symbols i;
    signs = λ j h. (each j h).sign;
  }
