-- What is meant: the atoms of a formula, left to right, and which of them are contacts. Assumes nothing.
use Rattle.std.specs.Prelude.{Bool, true, false, List, [], ◌∷◌, ◌++◌}
use Rattle.formula.specs.Formula.{Atom, Form}

-- "An atom is a C, <= or =0 place in a rule; every place counts."
module _ {A : Type 0} where
  abbrev pub atoms_of : Form A → List A
  atoms_of Form.truth = []
  atoms_of Form.falsity = []
  atoms_of (Form.atom a) = a ∷ []
  atoms_of (Form.negation f) = atoms_of f
  atoms_of (Form.conjunction f g) = atoms_of f ++ atoms_of g
  atoms_of (Form.disjunction f g) = atoms_of f ++ atoms_of g
  atoms_of (Form.implication f g) = atoms_of f ++ atoms_of g
  atoms_of (Form.equivalence f g) = atoms_of f ++ atoms_of g

-- the atom's sign is C
abbrev pub is_contact : {N : Type 0} → Atom N → Bool
is_contact (Atom.contact s t) = true
is_contact (Atom.part s t) = false
is_contact (Atom.empty t) = false
