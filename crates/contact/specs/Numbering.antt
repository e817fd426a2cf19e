-- What is meant: "Names and atoms are numbered from 0 by first place, rules in order, left to right.", and of the atoms those that are
-- different: document 02, T-03. The last definitions (`TermBelow`, `AtomBelow`, `AtomsBelow`) are for proofs. Assumes nothing.
use Rattle.std.specs.Prelude.{Bool, true, false, not, ◌&&◌, cond, ◌≡◌, List, [], ◌∷◌, ◌++◌, map, ℕ, suc, ◌<◌, eqb, get_or}
use Rattle.formula.specs.Formula.{Term, Atom, Form, Formula, Name}
use Rattle.formula.specs.Atoms.{atoms_of}
use Rattle.formula.specs.Names.{atom_names}
use Rattle.formula.specs.Same.{name_discrete, same_atom}
use Rattle.lists.specs.Search.{In, keep, collect}

module _ {A : Type 0} where
  -- the atoms of the rules, in their order
  abbrev pub all_atoms : List (Form A) → List A
  all_atoms rules = collect atoms_of rules

-- each element once, at its first place
module _ {N : Type 0} (same : N → N → Bool) where
  abbrev pub distinct : List N → List N
  distinct [] = []
  distinct (x ∷ xs) = x ∷ keep (λ y. not (same x y)) (distinct xs)

  -- the place of an element; the length of the list where it is none
  abbrev pub position : List N → N → ℕ
  position [] x = 0
  position (y ∷ ys) x = let r = suc (position ys x) in cond (same y x) 0 r

  -- without an algorithm: of those in the list that are the same as a, x stands first
  pub record IsFirst (xs : List N) (a x : N) : Type 0 where
    pub before : List N
    pub after : List N
    pub stands : xs ≡ before ++ x ∷ after
    pub is_same : same x a ≡ true
    pub none_before : (y : N) → In y before → same y a ≡ false

-- names are the same if their bytes are
abbrev pub same_name : Name → Name → Bool
same_name [] [] = true
same_name [] (b ∷ w) = false
same_name (a ∷ v) [] = false
same_name (a ∷ v) (b ∷ w) = let r = same_name v w in eqb a b && r

-- the names of the rules in the order of their numbers
abbrev pub names_of : List (Formula Name) → List Name
names_of rules = distinct same_name (collect atom_names (all_atoms rules))

-- the number of a name
abbrev pub number_of : List (Formula Name) → Name → ℕ
number_of rules = position same_name (names_of rules)

-- the name of a number
abbrev pub name_of : List (Formula Name) → ℕ → Name
name_of rules i = get_or (names_of rules) i []

-- ---- other names for the names, other atoms for the atoms

module _ {N M : Type 0} (g : N → M) where
  abbrev pub map_term : Term N → Term M
  map_term Term.zero = Term.zero
  map_term Term.one = Term.one
  map_term (Term.name x) = Term.name (g x)
  map_term (Term.complement t) = Term.complement (map_term t)
  map_term (Term.intersection s t) = Term.intersection (map_term s) (map_term t)
  map_term (Term.union s t) = Term.union (map_term s) (map_term t)

  abbrev pub map_atom : Atom N → Atom M
  map_atom (Atom.contact x y) = Atom.contact (map_term x) (map_term y)
  map_atom (Atom.part x y) = Atom.part (map_term x) (map_term y)
  map_atom (Atom.empty t) = Atom.empty (map_term t)

module _ {A B : Type 0} (g : A → B) where
  abbrev pub map_form : Form A → Form B
  map_form Form.truth = Form.truth
  map_form Form.falsity = Form.falsity
  map_form (Form.atom a) = Form.atom (g a)
  map_form (Form.negation f) = Form.negation (map_form f)
  map_form (Form.conjunction f h) = Form.conjunction (map_form f) (map_form h)
  map_form (Form.disjunction f h) = Form.disjunction (map_form f) (map_form h)
  map_form (Form.implication f h) = Form.implication (map_form f) (map_form h)
  map_form (Form.equivalence f h) = Form.equivalence (map_form f) (map_form h)

-- ---- the different atoms: document 02, T-03

-- "atoms that are the same count as one", each "taken from its first writing" (`first_writing` of proofs/Claims.antt, by `IsFirst`)
abbrev pub different_atoms : List (Formula Name) → List (Atom Name)
different_atoms rules = distinct (same_atom name_discrete) (all_atoms rules)

-- "numbered by first place"
abbrev pub atom_number : List (Formula Name) → Atom Name → ℕ
atom_number rules = position (same_atom name_discrete) (different_atoms rules)

-- the rules with numbers for atoms
abbrev pub numbered_atoms : List (Formula Name) → List (Form ℕ)
numbered_atoms rules = map (map_form (atom_number rules)) rules

-- "Rows run over the different atoms": these, with numbers for names
abbrev pub row_atoms : List (Formula Name) → List (Atom ℕ)
row_atoms rules = map (map_atom (number_of rules)) (different_atoms rules)

-- the names of a term, of an atom, of a list of atoms are numbered below n
abbrev pub TermBelow : ℕ → Term ℕ → Type 0
TermBelow n Term.zero = Unit {0}
TermBelow n Term.one = Unit {0}
TermBelow n (Term.name i) = i < n
TermBelow n (Term.complement t) = TermBelow n t
TermBelow n (Term.intersection s t) = TermBelow n s × TermBelow n t
TermBelow n (Term.union s t) = TermBelow n s × TermBelow n t

abbrev pub AtomBelow : ℕ → Atom ℕ → Type 0
AtomBelow n (Atom.contact x y) = TermBelow n x × TermBelow n y
AtomBelow n (Atom.part x y) = TermBelow n x × TermBelow n y
AtomBelow n (Atom.empty t) = TermBelow n t

abbrev pub AtomsBelow : ℕ → List (Atom ℕ) → Type 0
AtomsBelow n atoms = (a : Atom ℕ) → In a atoms → AtomBelow n a
