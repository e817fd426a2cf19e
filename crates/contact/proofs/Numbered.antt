-- The numbered rules say what the rules say: the atom at an atom's number is the same, and so has the same value on every floor. The
-- numbers, each at its first place, are those from 0 in order; one rule put last changes no number before it. Assumes nothing.
use mathlib.Core.Bool.{Bool, true, false, not, ◌&&◌, ◌||◌, beq}
use mathlib.Core.Path.{◌≡◌, refl, sym, ap, ap₂, ◌∙◌, subst}
use mathlib.Core.List.{List, [], ◌∷◌, ◌++◌, map, map-append}
use mathlib.Mathlib.Data.Bool.Basic.{eq-false_of_not-eq-true}
use Prim.Native.Nat.{ℕ, ◌<◌}
use lib.Dec.{eqb}
use lib.ListN.{length, get_or, length-map}
use borrow.Author.Tests.{eqb-true, eq-eqb}
use Rattle.formula.specs.Formula.{Atom, Form, Formula, Name}
use Rattle.formula.specs.Atoms.{atoms_of}
use Rattle.formula.specs.Same.{name_discrete, same_atom}
use Rattle.lists.specs.Search.{In, here, all, below}
use Rattle.lists.proofs.Lists.{map_at}
use Rattle.lists.proofs.Search.{in_left, in_right, map_elim, collect_last}
use Rattle.lists.proofs.Truth.{clash, cases}
use Rattle.contact.specs.Meaning.{Floor, atom_on, value, meets_all}
use Rattle.contact.specs.Numbering.{all_atoms, distinct, position, map_form, different_atoms, atom_number, numbered_atoms}
use Rattle.contact.specs.Putting.{is_in}
use Rattle.contact.specs.Row.{rules_true}
use Rattle.contact.proofs.Distinct.{Alike, position_in, position_same, position_alike, in_distinct, position_distinct, distinct_places, distinct_map}
use Rattle.contact.proofs.Renaming.{forms_same}
use Rattle.contact.proofs.Same.{same_alike, same_value}

-- ---- the values

module _ {A : Type 0} (h : A → ℕ) (r : ℕ → Bool) (v : A → Bool) where
  -- r gives the numbers of these atoms their values
  abbrev pub Agrees : List A → Type 0
  Agrees atoms = (a : A) → In a atoms → r (h a) ≡ v a

  -- the two sides of a binary sign
  number_both : (f g : Form A) (c : Bool → Bool → Bool) → Agrees (atoms_of f ++ atoms_of g)
      → (Agrees (atoms_of f) → value r (map_form h f) ≡ value v f) → (Agrees (atoms_of g) → value r (map_form h g) ≡ value v g)
      → c (value r (map_form h f)) (value r (map_form h g)) ≡ c (value v f) (value v g)
  number_both f g c u left right = ap₂ c (left (λ a i. u a (in_left (atoms_of g) i))) (right (λ a i. u a (in_right (atoms_of f) i)))

  pub number_value : (f : Form A) → Agrees (atoms_of f) → value r (map_form h f) ≡ value v f
  number_value Form.truth u = refl
  number_value Form.falsity u = refl
  number_value (Form.atom a) u = u a here
  number_value (Form.negation f) u = ap not (number_value f u)
  number_value (Form.conjunction f g) u = number_both f g ◌&&◌ u (number_value f) (number_value g)
  number_value (Form.disjunction f g) u = number_both f g ◌||◌ u (number_value f) (number_value g)
  number_value (Form.implication f g) u = number_both f g (λ a b. not a || b) u (number_value f) (number_value g)
  number_value (Form.equivalence f g) u = number_both f g beq u (number_value f) (number_value g)

  numbers_value : (fs : List (Form A)) → Agrees (all_atoms fs) → all (value r) (map (map_form h) fs) ≡ all (value v) fs
  numbers_value [] u = refl
  numbers_value (f ∷ fs) u =
      ap₂ ◌&&◌ (number_value f (λ a i. u a (in_left (all_atoms fs) i))) (numbers_value fs (λ a i. u a (in_right (atoms_of f) i)))

abbrev same : Atom Name → Atom Name → Bool
same = same_atom name_discrete

abbrev alike : Alike same
alike = same_alike name_discrete

module _ (rules : List (Formula Name)) where
  there : {a : Atom Name} → In a (all_atoms rules) → is_in same (different_atoms rules) a ≡ true
  there {a} i = in_distinct same alike (all_atoms rules) a i

  -- each atom has a number below how many different ones there are, and the atom of that number is the same
  pub atom_found : (none : Atom Name) {a : Atom Name} → In a (all_atoms rules)
      → (atom_number rules a < length (different_atoms rules)) × (same (get_or (different_atoms rules) (atom_number rules a) none) a ≡ true)
  atom_found none {a} i = (position_in same (different_atoms rules) a (there i), position_same same none (different_atoms rules) a (there i))

  -- so values of the different atoms on a floor give each atom its own
  pub values_agree : (F : Floor Name) (r : ℕ → Bool) (none : Atom Name)
      → ((i : ℕ) → i < length (different_atoms rules) → r i ≡ atom_on F (get_or (different_atoms rules) i none)) → Agrees (atom_number rules) r (atom_on F) (all_atoms rules)
  values_agree F r none h a i =
      let w = atom_found none i in
      h (atom_number rules a) w.0 ∙ same_value F name_discrete (get_or (different_atoms rules) (atom_number rules a) none) a w.1

  -- the numbered rules say of a floor what the rules say
  pub numbered_faithful : (F : Floor Name) → rules_true (numbered_atoms rules) (map (atom_on F) (different_atoms rules)) ≡ meets_all F rules
  unfolding rules_true
  numbered_faithful F =
      numbers_value (atom_number rules) (λ i. get_or (map (atom_on F) (different_atoms rules)) i false) (atom_on F) rules
      (λ a i. values_agree F (λ j. get_or (map (atom_on F) (different_atoms rules)) j false) a
      (λ j l. map_at (atom_on F) (different_atoms rules) j a false l) a i)

-- ---- the numbers

-- other atoms in the places of the atoms
module _ {A B : Type 0} (h : A → B) where
  pub atoms_map : (f : Form A) → atoms_of (map_form h f) ≡ map h (atoms_of f)
  atoms_map Form.truth = refl
  atoms_map Form.falsity = refl
  atoms_map (Form.atom a) = refl
  atoms_map (Form.negation f) = atoms_map f
  atoms_map (Form.conjunction f g) = ap₂ ◌++◌ (atoms_map f) (atoms_map g) ∙ sym (map-append h (atoms_of f) (atoms_of g))
  atoms_map (Form.disjunction f g) = ap₂ ◌++◌ (atoms_map f) (atoms_map g) ∙ sym (map-append h (atoms_of f) (atoms_of g))
  atoms_map (Form.implication f g) = ap₂ ◌++◌ (atoms_map f) (atoms_map g) ∙ sym (map-append h (atoms_of f) (atoms_of g))
  atoms_map (Form.equivalence f g) = ap₂ ◌++◌ (atoms_map f) (atoms_map g) ∙ sym (map-append h (atoms_of f) (atoms_of g))

  pub all_atoms_map : (fs : List (Form A)) → all_atoms (map (map_form h) fs) ≡ map h (all_atoms fs)
  all_atoms_map [] = refl
  all_atoms_map (f ∷ fs) = ap₂ ◌++◌ (atoms_map f) (all_atoms_map fs) ∙ sym (map-append h (atoms_of f) (all_atoms fs))

module _ (rules : List (Formula Name)) where
  -- atoms have the same number exactly if they are the same
  number_exactly : (a b : Atom Name) → In a (all_atoms rules) → In b (all_atoms rules) → eqb (atom_number rules a) (atom_number rules b) ≡ same a b
  number_exactly a b i j =
      cases (same a b) (λ h. eq-eqb _ _ (position_alike same alike (different_atoms rules) a b h) ∙ sym h)
      (λ h. eq-false_of_not-eq-true (λ e. clash (joined (eqb-true _ _ e)) h) ∙ sym h)
    where
      joined : atom_number rules a ≡ atom_number rules b → same a b ≡ true
      joined e =
          let k : Atom Name = get_or (different_atoms rules) (atom_number rules a) a in
          let x : same k a ≡ true = (atom_found rules a i).1 in
          let y : same k b ≡ true = ap (λ (n : ℕ). same (get_or (different_atoms rules) n a) b) e ∙ (atom_found rules a j).1 in
          sym (alike.alike k a x b) ∙ y

  -- "numbered by first place": the numbers as they stand in the rules, each at its first place, are 0, 1, 2 and so on
  pub numbered_in_order : distinct eqb (all_atoms (numbered_atoms rules)) ≡ below (length (different_atoms rules))
  numbered_in_order =
      ap (distinct eqb) (all_atoms_map (atom_number rules) rules)
      ∙ distinct_map same eqb (atom_number rules) (all_atoms rules) number_exactly
      ∙ distinct_places same alike (all_atoms rules)

  pub numbers_count : length (numbered_atoms rules) ≡ length rules
  numbers_count = length-map rules (map_form (atom_number rules))

  -- one rule more, put last: the atoms before it keep their numbers
  pub numbered_atoms_with : (f : Formula Name) → numbered_atoms (rules ++ f ∷ []) ≡ numbered_atoms rules ++ map_form (atom_number (rules ++ f ∷ [])) f ∷ []
  numbered_atoms_with f =
      map-append (map_form (atom_number (rules ++ f ∷ []))) rules (f ∷ [])
      ∙ ap (λ (l : List (Form ℕ)). l ++ map_form (atom_number (rules ++ f ∷ [])) f ∷ [])
      (forms_same (atom_number (rules ++ f ∷ [])) (atom_number rules) rules
      (λ a i. ap (λ (l : List (Atom Name)). position same (distinct same l) a) (collect_last atoms_of rules f) ∙ position_distinct same alike (all_atoms rules) (atoms_of f) a i))

-- the numbers in the rules are below m
abbrev pub NumbersBelow : ℕ → List (Form ℕ) → Type 0
NumbersBelow m nums = (i : ℕ) → In i (all_atoms nums) → i < m

pub numbers_below : (rules : List (Formula Name)) → NumbersBelow (length (different_atoms rules)) (numbered_atoms rules)
numbers_below rules i h =
    let r = map_elim (atom_number rules) (all_atoms rules) (subst (In i) (all_atoms_map (atom_number rules) rules) h) in
    subst (λ (n : ℕ). n < length (different_atoms rules)) (sym r.1) (atom_found rules r.0 r.2).0
