-- What is meant: the tokens of a formula as it is printed, by its tree and the one table of binding levels. Assumes nothing.
use Rattle.std.specs.Prelude.{Bool, true, false, cond, List, [], ◌∷◌, ◌++◌, leb, ltb}
use Rattle.formula.specs.declared.Sign.{Sign}
use Rattle.formula.specs.declared.Sign.TheVariants.{Implies, Iff, Or, And, Plus, Times}
use Rattle.formula.specs.Sign.{level_of}
use Rattle.formula.specs.Formula.{Term, Atom, Form, Formula}
use Rattle.syntax.specs.Symbol.{Leaf, Symbol, leaf, minus, tilde, opening, closing, comma, is_zero, binary, constant, relation, contact, part}

-- ---- "puts one pair of parentheses round exactly these"

-- the own sign of an operand: the binary sign that joins its two parts, or none
pub data OwnSign : Type 0 where
  own : Sign → OwnSign
  none : OwnSign

-- where an operand stands: to the left or to the right of a binary sign, or after ~ or -
pub data Position : Type 0 where
  left_of : Sign → Position
  right_of : Sign → Position
  after_prefix : Position

abbrev pub paired : OwnSign → Position → Bool
-- "an operand of a binary sign, where its own sign binds looser,"
paired (own c) (left_of b) = ltb (level_of c) (level_of b)
-- "or binds equally and it stands to the right,"
paired (own c) (right_of b) = leb (level_of c) (level_of b)
-- "or a binary operand of ~ or -."
paired (own c) after_prefix = true
-- "a "=0" formula as an operand, get none", nor does any other that is not binary
paired none p = false

module _ {N : Type 0} where
  -- the tokens ts of an operand with this own sign, in their pair of parentheses where they get one
  abbrev pub operand : Position → OwnSign → List (Symbol N) → List (Symbol N)
  operand p o ts = cond (paired o p) (opening ∷ ts ++ closing ∷ []) ts

  -- a binary sign and its two operands
  abbrev pub joined : Sign → OwnSign → List (Symbol N) → OwnSign → List (Symbol N) → List (Symbol N)
  joined b o ts p us = operand (left_of b) o ts ++ binary b ∷ operand (right_of b) p us

  -- ---- terms

  abbrev pub term_sign : Term N → OwnSign
  term_sign Term.zero = none
  term_sign Term.one = none
  term_sign (Term.name x) = none
  term_sign (Term.complement t) = none
  term_sign (Term.intersection t u) = own Times
  term_sign (Term.union t u) = own Plus

  unfoldable pub term_tokens : Term N → List (Symbol N)
  term_tokens Term.zero = leaf Leaf.zero ∷ []
  term_tokens Term.one = leaf Leaf.one ∷ []
  term_tokens (Term.name x) = leaf (Leaf.name x) ∷ []
  term_tokens (Term.complement t) = minus ∷ operand after_prefix (term_sign t) (term_tokens t)
  term_tokens (Term.intersection t u) = joined Times (term_sign t) (term_tokens t) (term_sign u) (term_tokens u)
  term_tokens (Term.union t u) = joined Plus (term_sign t) (term_tokens t) (term_sign u) (term_tokens u)

  -- ---- formulas

  unfoldable pub atom_tokens : Atom N → List (Symbol N)
  -- "besides those of C and <=": these two have parentheses of their own
  atom_tokens (Atom.contact t u) = relation contact ∷ opening ∷ term_tokens t ++ (comma ∷ term_tokens u ++ closing ∷ [])
  atom_tokens (Atom.part t u) = relation part ∷ opening ∷ term_tokens t ++ (comma ∷ term_tokens u ++ closing ∷ [])
  -- "The term before "=0" .. get none."
  atom_tokens (Atom.empty t) = term_tokens t ++ is_zero ∷ []

  abbrev pub formula_sign : Formula N → OwnSign
  formula_sign Form.truth = none
  formula_sign Form.falsity = none
  formula_sign (Form.atom a) = none
  formula_sign (Form.negation f) = none
  formula_sign (Form.conjunction f g) = own And
  formula_sign (Form.disjunction f g) = own Or
  formula_sign (Form.implication f g) = own Implies
  formula_sign (Form.equivalence f g) = own Iff

  unfoldable pub formula_tokens : Formula N → List (Symbol N)
  formula_tokens Form.truth = constant true ∷ []
  formula_tokens Form.falsity = constant false ∷ []
  formula_tokens (Form.atom a) = atom_tokens a
  formula_tokens (Form.negation f) = tilde ∷ operand after_prefix (formula_sign f) (formula_tokens f)
  formula_tokens (Form.conjunction f g) = joined And (formula_sign f) (formula_tokens f) (formula_sign g) (formula_tokens g)
  formula_tokens (Form.disjunction f g) = joined Or (formula_sign f) (formula_tokens f) (formula_sign g) (formula_tokens g)
  formula_tokens (Form.implication f g) = joined Implies (formula_sign f) (formula_tokens f) (formula_sign g) (formula_tokens g)
  formula_tokens (Form.equivalence f g) = joined Iff (formula_sign f) (formula_tokens f) (formula_sign g) (formula_tokens g)
