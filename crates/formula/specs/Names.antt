-- What is meant: the names of a formula, each place, left to right. Assumes nothing.
use Rattle.std.specs.Prelude.{List, [], ◌∷◌, ◌++◌}
use Rattle.formula.specs.Formula.{Term, Atom, Form, Formula}

module _ {N : Type 0} where
  abbrev pub term_names : Term N → List N
  term_names Term.zero = []
  term_names Term.one = []
  term_names (Term.name x) = x ∷ []
  term_names (Term.complement t) = term_names t
  term_names (Term.intersection s t) = term_names s ++ term_names t
  term_names (Term.union s t) = term_names s ++ term_names t

  abbrev pub atom_names : Atom N → List N
  atom_names (Atom.contact x y) = term_names x ++ term_names y
  atom_names (Atom.part x y) = term_names x ++ term_names y
  atom_names (Atom.empty t) = term_names t

  abbrev pub formula_names : Formula N → List N
  formula_names Form.truth = []
  formula_names Form.falsity = []
  formula_names (Form.atom a) = atom_names a
  formula_names (Form.negation f) = formula_names f
  formula_names (Form.conjunction f g) = formula_names f ++ formula_names g
  formula_names (Form.disjunction f g) = formula_names f ++ formula_names g
  formula_names (Form.implication f g) = formula_names f ++ formula_names g
  formula_names (Form.equivalence f g) = formula_names f ++ formula_names g
