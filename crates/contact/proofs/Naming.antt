-- Numbers may stand for names: a floor over numbers is one over names, each name at its number, and gives the rules' atoms the row that
-- it gives these with numbers for names; the atoms with the names put back are as read, so the same holds the other way round. A floor counts
-- over numbers where it counts over names, since each name has its number and each number its name. Assumes nothing.
use mathlib.Core.Bool.{Bool, true, not, ◌&&◌, ◌||◌, and-eq-true_iff}
use mathlib.Core.Path.{◌≡◌, refl, sym, ap, ap₂, ◌∙◌, subst, fun_ext}
use mathlib.Core.Logic.{◌↔◌, ∥∥₁_map}
use mathlib.Core.List.{List, [], ◌∷◌, map, map-map, map-id, nil≢cons, cons≢nil, head-eq_of_cons-eq, tail-eq_of_cons-eq}
use mathlib.Mathlib.Data.Bool.Basic.{and_intro}
use Prim.Native.Nat.{ℕ, ◌≤◌, ◌<◌}
use lib.Dec.{eqb}
use lib.ListN.{length}
use borrow.Author.Tests.{eqb-true, eq-eqb}
use Rattle.formula.specs.Formula.{Term, Atom, Formula, Name}
use Rattle.lists.specs.Search.{In, here, any, collect, below}
use Rattle.lists.proofs.Lists.{map_agree}
use Rattle.lists.proofs.Search.{in_left, in_right, placed, map_elim, collect_intro, collect_elim, below_intro, below_elim}
use Rattle.contact.specs.Meaning.{Floor, holds, within, part_term, atom_on, meets_all, renamed}
use Rattle.contact.specs.Question.{Question, plain, building, Way, stay, step, Shaped, Somewhere, Counts, NoFloor}
use Rattle.formula.specs.Atoms.{atoms_of}
use Rattle.formula.specs.Names.{term_names, atom_names}
use Rattle.formula.specs.Same.{name_discrete, same_atom}
use Rattle.contact.specs.Numbering.{all_atoms, same_name, names_of, map_term, map_atom, different_atoms, numbered_atoms, row_atoms, TermBelow, AtomBelow, AtomsBelow, number_of, name_of}
use Rattle.lists.proofs.Truth.{clash}
use Rattle.contact.specs.Row.{IsFirstRow, Row, Realises, Realisable, rules_true}
use Rattle.contact.specs.Check.{first_row_of}
use Rattle.contact.proofs.Somewhere.{somewhere_unnamed, somewhere_renamed, somewhere_back}
use Rattle.contact.proofs.Distinct.{Alike, Decides, decides_alike, from_distinct, position_in, position_same, in_distinct, distinct_places, distinct_fewer}
use Rattle.contact.proofs.Same.{same_alike}
use Rattle.contact.proofs.Numbered.{numbered_faithful}
use Rattle.contact.proofs.Answer.{first_good, first_row_once, first_earliest, some_found, none_exactly, row_floor, row_counts, plan_gives_row}

-- ---- renaming

module _ {N M : Type 0} (g : N → M) where
  holds_map : (v : M → Bool) (t : Term N) → holds v (map_term g t) ≡ holds (λ x. v (g x)) t
  holds_map v Term.zero = refl
  holds_map v Term.one = refl
  holds_map v (Term.name x) = refl
  holds_map v (Term.complement t) = ap not (holds_map v t)
  holds_map v (Term.intersection s t) = ap₂ ◌&&◌ (holds_map v s) (holds_map v t)
  holds_map v (Term.union s t) = ap₂ ◌||◌ (holds_map v s) (holds_map v t)

  module _ (F : Floor M) where
    within_map : (t : Term N) → within F (map_term g t) ≡ within (renamed g F) t
    within_map t = fun_ext (λ p. holds_map (λ x. F.lies x p) t)

    -- the one renaming lemma
    pub atom_map : (a : Atom N) → atom_on F (map_atom g a) ≡ atom_on (renamed g F) a
    atom_map (Atom.contact x y) =
        ap₂
        (λ (u w : ℕ → Bool). any (λ p. u p && any (λ q. w q && F.touch p q) (below F.points)) (below F.points))
        (within_map x) (within_map y)
    atom_map (Atom.part x y) = ap (λ (u : ℕ → Bool). not (any u (below F.points))) (within_map (part_term x y))
    atom_map (Atom.empty t) = ap (λ (u : ℕ → Bool). not (any u (below F.points))) (within_map t)

-- a floor gives renamed atoms the row that, renamed, it gives the atoms
row_map : {N M : Type 0} (g : N → M) (F : Floor M) (atoms : List (Atom N)) → map (atom_on F) (map (map_atom g) atoms) ≡ map (atom_on (renamed g F)) atoms
row_map {N} g F atoms = map-map (atom_on F) (map_atom g) atoms ∙ ap (λ (v : Atom N → Bool). map v atoms) (fun_ext (atom_map g F))

-- a way stays one under other names
way_renamed : {N M : Type 0} (g : N → M) (F : Floor M) {p r : ℕ} → Way F p r → Way (renamed g F) p r
way_renamed g F stay = stay
way_renamed g F (step l t w) = step l t (way_renamed g F w)

shaped_renamed : {N M : Type 0} (g : N → M) (q : Question) (F : Floor M) → Shaped q F → Shaped q (renamed g F)
shaped_renamed g plain F h = tt
shaped_renamed g building F h = λ p r hp hr. way_renamed g F (h p r hp hr)

-- so a floor that counts still does, if the names are those that it is renamed by
counts_renamed : {N M : Type 0} (g : N → M) (q : Question) (names : List N) (others : List M) (F : Floor M)
    → ((x : N) → In x names → In (g x) others) → ((y : M) → In y others → (x : N) × In x names × (g x ≡ y))
    → Counts q others F → Counts q names (renamed g F)
counts_renamed g q names others F into onto c =
    record { somewhere = somewhere_renamed g names others F into onto c.somewhere; shaped = shaped_renamed g q F c.shaped }

-- where no name is used every floor counts for the plain question
plain_unnamed : {N : Type 0} (F : Floor N) → Counts plain [] F
plain_unnamed F = record { somewhere = somewhere_unnamed F; shaped = tt }

-- ---- and back again

module _ {N M : Type 0} (g : N → M) (back : M → N) where
  term_back : (t : Term N) → ((x : N) → In x (term_names t) → back (g x) ≡ x) → map_term back (map_term g t) ≡ t
  term_back Term.zero h = refl
  term_back Term.one h = refl
  term_back (Term.name x) h = ap Term.name (h x here)
  term_back (Term.complement t) h = ap Term.complement (term_back t h)
  term_back (Term.intersection s t) h =
      ap₂ Term.intersection (term_back s (λ x i. h x (in_left (term_names t) i))) (term_back t (λ x i. h x (in_right (term_names s) i)))
  term_back (Term.union s t) h =
      ap₂ Term.union (term_back s (λ x i. h x (in_left (term_names t) i))) (term_back t (λ x i. h x (in_right (term_names s) i)))

  atom_back : (a : Atom N) → ((x : N) → In x (atom_names a) → back (g x) ≡ x) → map_atom back (map_atom g a) ≡ a
  atom_back (Atom.contact s t) h =
      ap₂ Atom.contact (term_back s (λ x i. h x (in_left (term_names t) i))) (term_back t (λ x i. h x (in_right (term_names s) i)))
  atom_back (Atom.part s t) h =
      ap₂ Atom.part (term_back s (λ x i. h x (in_left (term_names t) i))) (term_back t (λ x i. h x (in_right (term_names s) i)))
  atom_back (Atom.empty t) h = ap Atom.empty (term_back t h)

-- ---- names below a number

module _ {N : Type 0} (g : N → ℕ) (n : ℕ) where
  term_below : (t : Term N) → ((x : N) → In x (term_names t) → g x < n) → TermBelow n (map_term g t)
  term_below Term.zero h = tt
  term_below Term.one h = tt
  term_below (Term.name x) h = h x here
  term_below (Term.complement t) h = term_below t h
  term_below (Term.intersection s t) h =
      (term_below s (λ x i. h x (in_left (term_names t) i)), term_below t (λ x i. h x (in_right (term_names s) i)))
  term_below (Term.union s t) h =
      (term_below s (λ x i. h x (in_left (term_names t) i)), term_below t (λ x i. h x (in_right (term_names s) i)))

  atom_below : (a : Atom N) → ((x : N) → In x (atom_names a) → g x < n) → AtomBelow n (map_atom g a)
  atom_below (Atom.contact s t) h =
      (term_below s (λ x i. h x (in_left (term_names t) i)), term_below t (λ x i. h x (in_right (term_names s) i)))
  atom_below (Atom.part s t) h =
      (term_below s (λ x i. h x (in_left (term_names t) i)), term_below t (λ x i. h x (in_right (term_names s) i)))
  atom_below (Atom.empty t) h = term_below t h

-- ---- positions

pub same_name_lem : Decides same_name
same_name_lem [] [] = (λ h. refl, λ e. refl)
same_name_lem [] (b ∷ w) = (λ h. clash h refl, λ e. absurd (nil≢cons e))
same_name_lem (a ∷ v) [] = (λ h. clash h refl, λ e. absurd (cons≢nil e))
same_name_lem (a ∷ v) (b ∷ w) = (
  λ h. let r = (and-eq-true_iff (eqb a b) (same_name v w)).0 h in ap₂ ◌∷◌ (eqb-true a b r.0) ((same_name_lem v w).0 r.1),
  λ e. and_intro (eq-eqb a b (head-eq_of_cons-eq e)) ((same_name_lem v w).1 (tail-eq_of_cons-eq e)),
)

pub name_alike : Alike same_name
name_alike = decides_alike same_name same_name_lem

-- ---- the rules as read and the numbered rules

module _ (rules : List (Formula Name)) where
  -- each name of the rules has a number below how many they are, and is found at it
  pub name_found : {x : Name} → In x (collect atom_names (all_atoms rules))
      → (number_of rules x < length (names_of rules)) × (name_of rules (number_of rules x) ≡ x)
  name_found {x} i =
      let h = in_distinct same_name name_alike (collect atom_names (all_atoms rules)) x i in
      (position_in same_name (names_of rules) x h, (same_name_lem _ x).0 (position_same same_name [] (names_of rules) x h))

  -- the names of an atom of the rules
  atom_names_lem : {a : Atom Name} {x : Name} → In a (different_atoms rules) → In x (atom_names a) → In x (collect atom_names (all_atoms rules))
  atom_names_lem i j = collect_intro atom_names (from_distinct (same_atom name_discrete) (all_atoms rules) i) j

  -- the atoms' names are below that number
  pub numbered_below : AtomsBelow (length (names_of rules)) (row_atoms rules)
  numbered_below a i =
      let r = map_elim (map_atom (number_of rules)) (different_atoms rules) i in
      subst (AtomBelow (length (names_of rules))) (sym r.1)
      (atom_below (number_of rules) (length (names_of rules)) r.0 (λ x j. (name_found (atom_names_lem r.2 j)).0))

  -- with the names put back an atom is as read
  pub atom_again : {a : Atom Name} → In a (all_atoms rules) → map_atom (name_of rules) (map_atom (number_of rules) a) ≡ a
  atom_again {a} i = atom_back (number_of rules) (name_of rules) a (λ x j. (name_found (collect_intro atom_names i j)).1)

  names_back : map (map_atom (name_of rules)) (row_atoms rules) ≡ different_atoms rules
  names_back =
      map-map (map_atom (name_of rules)) (map_atom (number_of rules)) (different_atoms rules)
      ∙ map_agree (λ a. map_atom (name_of rules) (map_atom (number_of rules) a)) (λ a. a) (different_atoms rules)
      (λ a i. atom_again (from_distinct (same_atom name_discrete) (all_atoms rules) i))
      ∙ map-id (different_atoms rules)

  -- a floor over numbers, as one over names, gives the different atoms the same values
  pub numbers_row : (F : Floor ℕ) → map (atom_on (renamed (number_of rules) F)) (different_atoms rules) ≡ map (atom_on F) (row_atoms rules)
  numbers_row F = sym (row_map (number_of rules) F (different_atoms rules))

  -- and so does a floor over names, as one over numbers
  pub names_row : (F : Floor Name) → map (atom_on (renamed (name_of rules) F)) (row_atoms rules) ≡ map (atom_on F) (different_atoms rules)
  names_row F = sym (row_map (name_of rules) F (row_atoms rules)) ∙ ap (map (atom_on F)) names_back

  -- a name that is used has its number
  used : {x : Name} → In x (names_of rules) → In x (collect atom_names (all_atoms rules))
  used i = from_distinct same_name (collect atom_names (all_atoms rules)) i

  -- and each number below how many they are is its name's
  number_name : (i : ℕ) → i < length (names_of rules) → (x : Name) × In x (names_of rules) × (number_of rules x ≡ i)
  number_name i l =
      let r = map_elim (number_of rules) (names_of rules)
      (subst (In i) (sym (distinct_places same_name name_alike (collect atom_names (all_atoms rules)))) (below_intro (length (names_of rules)) i l)) in
      (r.0, r.2, sym r.1)

  -- a floor counts over names where it counts over numbers, and the other way round
  number_in : (x : Name) → In x (names_of rules) → In (number_of rules x) (below (length (names_of rules)))
  number_in x i = below_intro (length (names_of rules)) (number_of rules x) (name_found (used i)).0

  pub numbers_count : (q : Question) (F : Floor ℕ) → Counts q (below (length (names_of rules))) F
      → Counts q (names_of rules) (renamed (number_of rules) F)
  numbers_count q F c =
      counts_renamed (number_of rules) q (names_of rules) (below (length (names_of rules))) F number_in
      (λ y i. number_name y (below_elim (length (names_of rules)) y i)) c

  pub numbers_somewhere : (F : Floor ℕ) → Somewhere (names_of rules) (renamed (number_of rules) F) → Somewhere (below (length (names_of rules))) F
  numbers_somewhere F s =
      somewhere_back (number_of rules) (names_of rules) (below (length (names_of rules))) F number_in
      (λ y i. number_name y (below_elim (length (names_of rules)) y i)) s

  pub names_count : (q : Question) (F : Floor Name) → Counts q (names_of rules) F
      → Counts q (below (length (names_of rules))) (renamed (name_of rules) F)
  names_count q F c =
      counts_renamed (name_of rules) q (below (length (names_of rules))) (names_of rules) F
      (λ i j. placed [] (names_of rules) i (below_elim (length (names_of rules)) i j))
      (λ y i. (number_of rules y, number_in y i, (name_found (used i)).1)) c

  -- a floor that gives the different atoms a row that makes the rules true meets them
  pub row_meets : (F : Floor Name) (row : Row) → Realises F (different_atoms rules) row → rules_true (numbered_atoms rules) row ≡ true → meets_all F rules ≡ true
  row_meets F row real k = sym (numbered_faithful rules F) ∙ ap (rules_true (numbered_atoms rules)) real ∙ k

-- ---- the answer, over names

module _ (q : Question) (rules : List (Formula Name)) where
  -- the realisable rows are the same
  realisable_named : (row : Row) → Realisable q (below (length (names_of rules))) (row_atoms rules) row ↔ Realisable q (names_of rules) (different_atoms rules) row
  realisable_named row = (
    λ r. ∥∥₁_map r (λ f. (renamed (number_of rules) f.0, numbers_count rules q f.0 f.1, numbers_row rules f.0 ∙ f.2)),
    λ r. ∥∥₁_map r (λ f. (renamed (name_of rules) f.0, names_count rules q f.0 f.1, names_row rules f.0 ∙ f.2)),
  )

  -- what is found, of these atoms and rules
  abbrev Found : Row → Type 0
  Found row = first_row_of q rules ≡ row ∷ []

  -- the plan of the first row
  abbrev found_floor : (row : Row) → Found row → Floor ℕ
  found_floor row e = row_floor q (length (names_of rules)) (row_atoms rules) (numbered_atoms rules) row e

  found_counts : (row : Row) (e : Found row) → Counts q (below (length (names_of rules))) (found_floor row e)
  found_counts row e = row_counts q (length (names_of rules)) (row_atoms rules) (numbered_atoms rules) row e

  found_row : (row : Row) (e : Found row) → Realises (found_floor row e) (row_atoms rules) row
  found_row row e = plan_gives_row q (length (names_of rules)) (row_atoms rules) (numbered_atoms rules) row e

  -- the row found is the first realisable one that makes the rules true
  pub first_row_named : (row : Row) → Found row → IsFirstRow q rules row
  first_row_named row e =
      let n = length (names_of rules) in
      record {
        realisable = (realisable_named row).0 ∣ (found_floor row e, found_counts row e, found_row row e) ∣₁;
        makes = (first_good q n (row_atoms rules) (numbered_atoms rules) row e).makes;
        earliest = λ other real k b.
            first_earliest q n (row_atoms rules) (numbered_atoms rules) (numbered_below rules) row other e ((realisable_named other).1 real) k b;
      }

  -- and that row is found
  pub first_row_only_named : (row : Row) → IsFirstRow q rules row → Found row
  first_row_only_named row r =
      let f = some_found q (length (names_of rules)) (row_atoms rules) (numbered_atoms rules) (numbered_below rules) row ((realisable_named row).1 r.realisable) r.makes in
      f.1 ∙ ap (λ (s : Row). s ∷ []) (first_row_once q rules f.0 row (first_row_named f.0 f.1) r)

  -- no row is found exactly where no floor that counts meets the rules as read
  pub no_plan_named : (first_row_of q rules ≡ []) ↔ NoFloor q rules
  no_plan_named =
      let w = none_exactly q (length (names_of rules)) (row_atoms rules) (numbered_atoms rules) (numbered_below rules) in (
        λ e F c h. w.0 e (renamed (name_of rules) F) (names_count rules q F c)
            (ap (rules_true (numbered_atoms rules)) (names_row rules F) ∙ numbered_faithful rules F ∙ h),
        λ none. w.1 (λ F c h. none (renamed (number_of rules) F) (numbers_count rules q F c)
            (sym (numbered_faithful rules (renamed (number_of rules) F)) ∙ ap (rules_true (numbered_atoms rules)) (numbers_row rules F) ∙ h)),
      )

  -- the plan of the first row, over names, counts, gives the row and meets the rules as read
  abbrev pub named_plan : (row : Row) → Found row → Floor Name
  named_plan row e = renamed (number_of rules) (found_floor row e)

  pub plan_counts_named : (row : Row) (e : Found row) → Counts q (names_of rules) (named_plan row e)
  plan_counts_named row e = numbers_count rules q (found_floor row e) (found_counts row e)

  pub plan_row_named : (row : Row) (e : Found row) → Realises (named_plan row e) (different_atoms rules) row
  plan_row_named row e = numbers_row rules (found_floor row e) ∙ found_row row e

  pub plan_meets_named : (row : Row) (e : Found row) → meets_all (named_plan row e) rules ≡ true
  plan_meets_named row e = row_meets rules (named_plan row e) row (plan_row_named row e) (first_row_named row e).makes

-- "with no names the old meaning stays": then no row is found exactly where no floor at all meets the rules
pub no_plan_unnamed : (rules : List (Formula Name)) → names_of rules ≡ []
    → (first_row_of plain rules ≡ []) ↔ ((F : Floor Name) → meets_all F rules ≡ true → ⊥)
no_plan_unnamed rules none =
    let w = no_plan_named plain rules in (
      λ e F h. w.0 e F (subst (λ (names : List Name). Counts plain names F) (sym none) (plain_unnamed F)) h,
      λ no. w.1 (λ F c h. no F h),
    )

-- rules that are all among others have no atoms and no names but theirs, and no more different atoms
pub atoms_among : (rules others : List (Formula Name)) → ((f : Formula Name) → In f rules → In f others) → (a : Atom Name) → In a (all_atoms rules) → In a (all_atoms others)
atoms_among rules others h a i = let r = collect_elim atoms_of rules i in collect_intro atoms_of (h r.0 r.1) r.2

pub names_among : (rules others : List (Formula Name)) → ((f : Formula Name) → In f rules → In f others)
    → (x : Name) → In x (collect atom_names (all_atoms rules)) → In x (collect atom_names (all_atoms others))
names_among rules others h x i = let r = collect_elim atom_names (all_atoms rules) i in collect_intro atom_names (atoms_among rules others h r.0 r.1) r.2

pub atoms_fewer : (rules others : List (Formula Name)) → ((f : Formula Name) → In f rules → In f others)
    → length (different_atoms rules) ≤ length (different_atoms others)
atoms_fewer rules others h =
    distinct_fewer (same_atom name_discrete) (same_alike name_discrete) (all_atoms rules) (all_atoms others) (atoms_among rules others h)
