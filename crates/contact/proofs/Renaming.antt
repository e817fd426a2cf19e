-- Two renamings that agree on the names and the atoms that are there give the same term, atom and rules; by recursion on these.
-- Assumes nothing.
use mathlib.Core.Path.{◌≡◌, refl, ap, ap₂}
use mathlib.Core.List.{List, [], ◌∷◌, ◌++◌, map}
use Rattle.formula.specs.Formula.{Term, Atom, Form}
use Rattle.formula.specs.Names.{term_names, atom_names}
use Rattle.lists.specs.Search.{In, here}
use Rattle.lists.proofs.Search.{in_left, in_right}
use Rattle.contact.specs.Numbering.{all_atoms, map_term, map_atom, map_form}
use Rattle.formula.specs.Atoms.{atoms_of}

-- two functions agree on a list
abbrev Agree : {A B : Type 0} → (A → B) → (A → B) → List A → Type 0
Agree {A} g h xs = (x : A) → In x xs → g x ≡ h x

module _ {N M : Type 0} (g h : N → M) where
  -- the two sides of a sign
  terms_same : {B : Type 0} (c : Term M → Term M → B) (s t : Term N) → Agree g h (term_names s ++ term_names t)
      → (Agree g h (term_names s) → map_term g s ≡ map_term h s) → (Agree g h (term_names t) → map_term g t ≡ map_term h t)
      → c (map_term g s) (map_term g t) ≡ c (map_term h s) (map_term h t)
  terms_same c s t u left right = ap₂ c (left (λ x i. u x (in_left (term_names t) i))) (right (λ x i. u x (in_right (term_names s) i)))

  term_same : (t : Term N) → Agree g h (term_names t) → map_term g t ≡ map_term h t
  term_same Term.zero u = refl
  term_same Term.one u = refl
  term_same (Term.name x) u = ap Term.name (u x here)
  term_same (Term.complement t) u = ap Term.complement (term_same t u)
  term_same (Term.intersection s t) u = terms_same Term.intersection s t u (term_same s) (term_same t)
  term_same (Term.union s t) u = terms_same Term.union s t u (term_same s) (term_same t)

  pub atom_same : (a : Atom N) → Agree g h (atom_names a) → map_atom g a ≡ map_atom h a
  atom_same (Atom.contact s t) u = terms_same Atom.contact s t u (term_same s) (term_same t)
  atom_same (Atom.part s t) u = terms_same Atom.part s t u (term_same s) (term_same t)
  atom_same (Atom.empty t) u = ap Atom.empty (term_same t u)

module _ {A B : Type 0} (g h : A → B) where
  -- the two sides of a binary sign
  sides_same : (c : Form B → Form B → Form B) (f k : Form A) → Agree g h (atoms_of f ++ atoms_of k)
      → (Agree g h (atoms_of f) → map_form g f ≡ map_form h f) → (Agree g h (atoms_of k) → map_form g k ≡ map_form h k)
      → c (map_form g f) (map_form g k) ≡ c (map_form h f) (map_form h k)
  sides_same c f k u left right = ap₂ c (left (λ x i. u x (in_left (atoms_of k) i))) (right (λ x i. u x (in_right (atoms_of f) i)))

  pub form_same : (f : Form A) → Agree g h (atoms_of f) → map_form g f ≡ map_form h f
  form_same Form.truth u = refl
  form_same Form.falsity u = refl
  form_same (Form.atom a) u = ap Form.atom (u a here)
  form_same (Form.negation f) u = ap Form.negation (form_same f u)
  form_same (Form.conjunction f k) u = sides_same Form.conjunction f k u (form_same f) (form_same k)
  form_same (Form.disjunction f k) u = sides_same Form.disjunction f k u (form_same f) (form_same k)
  form_same (Form.implication f k) u = sides_same Form.implication f k u (form_same f) (form_same k)
  form_same (Form.equivalence f k) u = sides_same Form.equivalence f k u (form_same f) (form_same k)

  pub forms_same : (fs : List (Form A)) → Agree g h (all_atoms fs) → map (map_form g) fs ≡ map (map_form h) fs
  forms_same [] u = refl
  forms_same (f ∷ fs) u =
      ap₂ ◌∷◌ (form_same f (λ x i. u x (in_left (all_atoms fs) i))) (forms_same fs (λ x i. u x (in_right (atoms_of f) i)))

-- one renaming after another
module _ {A B C : Type 0} (g : B → C) (h : A → B) where
  pub form_twice : (f : Form A) → map_form g (map_form h f) ≡ map_form (λ a. g (h a)) f
  form_twice Form.truth = refl
  form_twice Form.falsity = refl
  form_twice (Form.atom a) = refl
  form_twice (Form.negation f) = ap Form.negation (form_twice f)
  form_twice (Form.conjunction f k) = ap₂ Form.conjunction (form_twice f) (form_twice k)
  form_twice (Form.disjunction f k) = ap₂ Form.disjunction (form_twice f) (form_twice k)
  form_twice (Form.implication f k) = ap₂ Form.implication (form_twice f) (form_twice k)
  form_twice (Form.equivalence f k) = ap₂ Form.equivalence (form_twice f) (form_twice k)
