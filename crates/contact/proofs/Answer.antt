-- The first row that makes the rules true and passes the check decides the rules: its plan counts and gives exactly the row, so it makes
-- them true; and the row of any floor that counts and does is one of those tried, so where no row is found no such floor does. The
-- laws hold for each question, any list of atoms and any rules over their numbers. Assumes nothing.
use mathlib.Core.Bool.{Bool, true, false, Bool-set, and-eq-true_iff}
use mathlib.Core.Path.{◌≡◌, refl, sym, ap, ap₂, ◌∙◌, subst}
use mathlib.Core.Logic.{⊎_elim, ◌↔◌, ∥∥₁_elim}
use mathlib.Core.List.{List, [], ◌∷◌, map, nil≢cons, head-eq_of_cons-eq}
use mathlib.Mathlib.Data.Bool.Basic.{and_intro}
use Prim.Native.Nat.{ℕ, zero, suc}
use native.Mathlib.Omega.{arith}
use native.Mathlib.Nat.{ℕ_set}
use lib.ListN.{length, length-map}
use Rattle.formula.specs.Formula.{Atom, Form, Formula, Name}
use Rattle.lists.specs.Search.{In, here, any, first, or_else, below}
use Rattle.lists.proofs.Search.{none_in, uncons, in_left, in_right, in_either, map_intro, map_elim, any_intro, none_elim, none_intro, first_some, first_none, first_found, first_append, first_map}
use Rattle.lists.proofs.Truth.{clash, cases}
use Rattle.contact.specs.Meaning.{Floor, atom_on}
use Rattle.contact.specs.Question.{Question, Counts}
use Rattle.contact.specs.Numbering.{names_of, different_atoms, AtomsBelow}
use Rattle.contact.specs.Row.{IsFirstRow, Row, Realises, Realisable, rules_true, Before}
use Rattle.contact.specs.Plan.{row_marks}
use Rattle.contact.specs.Check.{passes, rows, good, first_row}
use Rattle.contact.proofs.Floors.{marks_floor, plan_counts, plan_row, row_check}

-- ---- the rows of n atoms are the lists of n Booleans, in the order of rows

rows_intro : (row : Row) → In row (rows (length row))
rows_intro [] = here
rows_intro (true ∷ row) = in_left (map (λ r. false ∷ r) (rows (length row))) (map_intro (λ r. true ∷ r) (rows_intro row))
rows_intro (false ∷ row) = in_right (map (λ r. true ∷ r) (rows (length row))) (map_intro (λ r. false ∷ r) (rows_intro row))

pub rows_elim : (n : ℕ) (row : Row) → In row (rows n) → length row ≡ n
rows_elim zero row i = ⊎_elim (λ q. ap length q) (λ j. none_in j) (uncons i)
rows_elim (suc n) row i =
    ⊎_elim (λ j. let r = map_elim (λ s. true ∷ s) (rows n) j in ap length r.1 ∙ ap suc (rows_elim n r.0 r.2))
    (λ j. let r = map_elim (λ s. false ∷ s) (rows n) j in ap length r.1 ∙ ap suc (rows_elim n r.0 r.2))
    (in_either (map (λ s. true ∷ s) (rows n)) (map (λ s. false ∷ s) (rows n)) i)

-- the rows that begin with true stand before those that begin with false
abbrev sides : List Row → List Row → List Row
sides ts fs = or_else (map (λ r. true ∷ r) ts) (map (λ r. false ∷ r) fs)

rows_first : (n : ℕ) (p : Row → Bool)
    → first p (rows (suc n)) ≡ sides (first (λ r. p (true ∷ r)) (rows n)) (first (λ r. p (false ∷ r)) (rows n))
rows_first n p =
    first_append p (map (λ r. true ∷ r) (rows n)) (map (λ r. false ∷ r) (rows n))
    ∙ ap₂ or_else (first_map (λ r. true ∷ r) p (rows n)) (first_map (λ r. false ∷ r) p (rows n))

-- no row before the first that passes does
before_first : (n : ℕ) (p : Row → Bool) (row other : Row) → first p (rows n) ≡ row ∷ [] → length other ≡ n → Before other row
    → p other ≡ false
before_first n p row [] e l b = absurd b
before_first zero p row (c ∷ o) e l b = absurd (omega arith)
before_first (suc n) p row (c ∷ o) e l b =
    cases (any (λ r. p (true ∷ r)) (rows n))
    (λ h. let x = first_some (λ r. p (true ∷ r)) (rows n) h in
    let q : row ≡ true ∷ x.0 = head-eq_of_cons-eq (sym e ∙ rows_first n p ∙ ap (λ L. sides L falses) x.1) in
    left c x.0 (subst (Before (c ∷ o)) q b) (before_first n (λ r. p (true ∷ r)) x.0 o x.1 (omega arith)))
    (λ h. let none = first_none (λ r. p (true ∷ r)) (rows n) h in
    let w : map (λ r. false ∷ r) falses ≡ row ∷ [] = ap (λ L. sides L falses) (sym none) ∙ sym (rows_first n p) ∙ e in
    cases (any (λ r. p (false ∷ r)) (rows n))
    (λ k. let x = first_some (λ r. p (false ∷ r)) (rows n) k in
    let q : row ≡ false ∷ x.0 = head-eq_of_cons-eq (sym w ∙ ap (map (λ r. false ∷ r)) x.1) in
    right c x.0 (subst (Before (c ∷ o)) q b) (none_elim (λ r. p (true ∷ r)) h (subst (λ k. In o (rows k)) len (rows_intro o)))
    (before_first n (λ r. p (false ∷ r)) x.0 o x.1 (omega arith)))
    (λ k. absurd (nil≢cons (ap (map (λ r. false ∷ r)) (sym (first_none (λ r. p (false ∷ r)) (rows n) k)) ∙ w))))
  where
    falses : List Row
    falses = first (λ r. p (false ∷ r)) (rows n)

    len : length o ≡ n
    len = omega arith

    left : (d : Bool) (r : Row) → Before (d ∷ o) (true ∷ r) → (Before o r → p (true ∷ o) ≡ false) → p (d ∷ o) ≡ false
    left true r i f = f i
    left false r i f = absurd i

    right : (d : Bool) (r : Row) → Before (d ∷ o) (false ∷ r) → p (true ∷ o) ≡ false → (Before o r → p (false ∷ o) ≡ false)
        → p (d ∷ o) ≡ false
    right true r i t f = t
    right false r i t f = f i

-- two rows of one length of which neither is before the other are the same
neither_before : (row other : Row) → length row ≡ length other → (Before row other → ⊥) → (Before other row → ⊥) → row ≡ other
neither_before [] [] l f g = refl
neither_before [] (c ∷ o) l f g = absurd (omega arith)
neither_before (b ∷ r) [] l f g = absurd (omega arith)
neither_before (true ∷ r) (true ∷ o) l f g = ap (λ s. true ∷ s) (neither_before r o (omega arith) f g)
neither_before (true ∷ r) (false ∷ o) l f g = absurd (f tt)
neither_before (false ∷ r) (true ∷ o) l f g = absurd (g tt)
neither_before (false ∷ r) (false ∷ o) l f g = ap (λ s. false ∷ s) (neither_before r o (omega arith) f g)

-- a realisable row has a value for each atom
realisable_length : {N : Type 0} (q : Question) (names : List N) (atoms : List (Atom N)) (row : Row) → Realisable q names atoms row → length row ≡ length atoms
realisable_length q names atoms row real =
    ∥∥₁_elim real (ℕ_set _ _) (λ f. ap length (sym f.2) ∙ length-map atoms (atom_on f.0))

-- so the first realisable row that makes the rules true is one
pub first_row_once : (q : Question) (rules : List (Formula Name)) (row other : Row) → IsFirstRow q rules row → IsFirstRow q rules other → row ≡ other
first_row_once q rules row other r s =
    neither_before row other
    (realisable_length q (names_of rules) (different_atoms rules) row r.realisable
    ∙ sym (realisable_length q (names_of rules) (different_atoms rules) other s.realisable))
    (s.earliest row r.realisable r.makes) (r.earliest other s.realisable s.makes)

-- ---- for any atoms and rules over their numbers

module _ (q : Question) (n : ℕ) (atoms : List (Atom ℕ)) (nums : List (Form ℕ)) where
  -- what a found row is
  pub record Good (row : Row) : Type 0 where
    pub whole : length row ≡ length atoms
    pub makes : rules_true nums row ≡ true
    pub checked : passes q n (row_marks atoms row) ≡ true

  good_elim : (row : Row) → In row (rows (length atoms)) → good q n atoms nums row ≡ true → Good row
  unfolding good
  good_elim row i g =
      let k = (and-eq-true_iff (rules_true nums row) (passes q n (row_marks atoms row))).0 g in
      record { whole = rows_elim (length atoms) row i; makes = k.0; checked = k.1 }

  pub first_good : (row : Row) → first_row q n atoms nums ≡ row ∷ [] → Good row
  unfolding first_row
  first_good row e = let r = first_found (good q n atoms nums) (rows (length atoms)) e in good_elim row r.0 r.1

  -- the floor makes the rules true
  abbrev pub Makes : Floor ℕ → Type 0
  Makes F = rules_true nums (map (atom_on F) atoms) ≡ true

  good_makes : (row : Row) (g : Good row) → Makes (marks_floor q n (row_marks atoms row) g.checked)
  good_makes row g = ap (rules_true nums) (plan_row q n atoms row g.whole g.checked) ∙ g.makes

  module _ (row : Row) (e : first_row q n atoms nums ≡ row ∷ []) where
    -- the plan of the first row
    abbrev pub row_floor : Floor ℕ
    row_floor = marks_floor q n (row_marks atoms row) (first_good row e).checked

    -- counts
    pub row_counts : Counts q (below n) row_floor
    row_counts = plan_counts q n (row_marks atoms row) (first_good row e).checked

    -- and gives exactly the row
    pub plan_gives_row : Realises row_floor atoms row
    plan_gives_row = plan_row q n atoms row (first_good row e).whole (first_good row e).checked

  module _ (names : AtomsBelow n atoms) where
    -- a realisable row that makes the rules true is good
    realised_good : (row : Row) (F : Floor ℕ) → Counts q (below n) F → Realises F atoms row → rules_true nums row ≡ true → good q n atoms nums row ≡ true
    unfolding good
    realised_good row F counts h k = and_intro k (row_check q n atoms names row F counts h)

    -- no realisable row before the first makes the rules true
    pub first_earliest : (row other : Row) → first_row q n atoms nums ≡ row ∷ [] → Realisable q (below n) atoms other → rules_true nums other ≡ true
        → Before other row → ⊥
    unfolding first_row
    first_earliest row other e real k b =
        ∥∥₁_elim real (λ x y. absurd x)
        (λ f. clash (realised_good other f.0 f.1 f.2 k)
        (before_first (length atoms) (good q n atoms nums) row other e (realisable_length q (below n) atoms other real) b))

    -- the row of a floor that counts and makes the rules true is among those tried, and good
    some_good : (F : Floor ℕ) → Counts q (below n) F → Makes F → any (good q n atoms nums) (rows (length atoms)) ≡ true
    some_good F counts h =
        let row : Row = map (atom_on F) atoms in
        any_intro (good q n atoms nums) (subst (λ k. In row (rows k)) (length-map atoms (atom_on F)) (rows_intro row)) (realised_good row F counts refl h)

    -- so a row is found where some realisable row makes the rules true
    pub some_found : (row : Row) → Realisable q (below n) atoms row → rules_true nums row ≡ true → (other : Row) × (first_row q n atoms nums ≡ other ∷ [])
    unfolding first_row
    some_found row real k =
        let found : any (good q n atoms nums) (rows (length atoms)) ≡ true =
        ∥∥₁_elim real (Bool-set _ _) (λ f. some_good f.0 f.1 (ap (rules_true nums) f.2 ∙ k)) in
        let r = first_some (good q n atoms nums) (rows (length atoms)) found in
        (r.0, r.1)

    -- and none exactly where no floor that counts does
    pub none_exactly : (first_row q n atoms nums ≡ []) ↔ ((F : Floor ℕ) → Counts q (below n) F → Makes F → ⊥)
    unfolding first_row
    none_exactly = (
      λ e F counts h. let r = first_some (good q n atoms nums) (rows (length atoms)) (some_good F counts h) in nil≢cons (sym e ∙ r.1),
      λ h. first_none (good q n atoms nums) (rows (length atoms))
          (none_intro (good q n atoms nums) (rows (length atoms))
          (λ row i g. let a = good_elim row i g in h (marks_floor q n (row_marks atoms row) a.checked) (plan_counts q n (row_marks atoms row) a.checked) (good_makes row a))),
    )
