-- What is computed: postfix order: each sign after what it is put on. A formula is found again from it. Assumes nothing.
use Rattle.std.specs.Prelude.{true, false}
use mathlib.Core.List.{List, [], ◌∷◌, ◌++◌, tail}
use Rattle.lists.specs.Search.{collect}
use Rattle.formula.specs.declared.Sign.TheVariants.{Implies, Iff, Or, And, Plus, Times}
use Rattle.formula.specs.Formula.{Term, Atom, Form, Formula}
use Rattle.syntax.specs.Grammar.{leaf_term}
pub use Rattle.syntax.specs.Symbol.{symbol_names}
use Rattle.syntax.specs.Symbol.{Leaf, Symbol, leaf, minus, tilde, opening, closing, comma, is_zero, binary, constant, relation, contact, part}

-- a term behind the symbols o
unfoldable pub term_after : {N : Type 0} → Term N → List (Symbol N) → List (Symbol N)
term_after Term.zero o = o ++ leaf Leaf.zero ∷ []
term_after Term.one o = o ++ leaf Leaf.one ∷ []
term_after (Term.name x) o = o ++ leaf (Leaf.name x) ∷ []
term_after (Term.complement t) o = term_after t o ++ minus ∷ []
term_after (Term.intersection t u) o = term_after u (term_after t o) ++ binary Times ∷ []
term_after (Term.union t u) o = term_after u (term_after t o) ++ binary Plus ∷ []

-- a formula behind the symbols o
unfoldable pub formula_after : {N : Type 0} → Formula N → List (Symbol N) → List (Symbol N)
formula_after Form.truth o = o ++ constant true ∷ []
formula_after Form.falsity o = o ++ constant false ∷ []
formula_after (Form.atom (Atom.contact t u)) o = term_after u (term_after t o) ++ relation contact ∷ []
formula_after (Form.atom (Atom.part t u)) o = term_after u (term_after t o) ++ relation part ∷ []
formula_after (Form.atom (Atom.empty t)) o = term_after t o ++ is_zero ∷ []
formula_after (Form.negation f) o = formula_after f o ++ tilde ∷ []
formula_after (Form.conjunction f g) o = formula_after g (formula_after f o) ++ binary And ∷ []
formula_after (Form.disjunction f g) o = formula_after g (formula_after f o) ++ binary Or ∷ []
formula_after (Form.implication f g) o = formula_after g (formula_after f o) ++ binary Implies ∷ []
formula_after (Form.equivalence f g) o = formula_after g (formula_after f o) ++ binary Iff ∷ []

-- the postfix order of a formula
abbrev pub postfix : {N : Type 0} → Formula N → List (Symbol N)
postfix f = formula_after f []

-- ---- back from the order to the formula, on a stack of values

pub data Value (N : Type 0) : Type 0 where
  term : Term N → Value N
  formula : Formula N → Value N

-- the value on top as a term, as a formula; only the order of no formula finds another value there
abbrev pub as_term : {N : Type 0} → Value N → Term N
as_term (term t) = t
as_term (formula f) = Term.zero

abbrev pub as_formula : {N : Type 0} → Value N → Formula N
as_formula (term t) = Form.falsity
as_formula (formula f) = f

abbrev pub top_term : {N : Type 0} → List (Value N) → Term N
top_term [] = Term.zero
top_term (v ∷ s) = as_term v

abbrev pub top_formula : {N : Type 0} → List (Value N) → Formula N
top_formula [] = Form.falsity
top_formula (v ∷ s) = as_formula v

-- the stack after one symbol
abbrev pub put : {N : Type 0} → Symbol N → List (Value N) → List (Value N)
put (leaf x) s = term (leaf_term x) ∷ s
put minus s = term (Term.complement (top_term s)) ∷ tail s
put tilde s = formula (Form.negation (top_formula s)) ∷ tail s
put opening s = s
put closing s = s
put comma s = s
put is_zero s = formula (Form.atom (Atom.empty (top_term s))) ∷ tail s
put (binary Times) s = term (Term.intersection (top_term (tail s)) (top_term s)) ∷ tail (tail s)
put (binary Plus) s = term (Term.union (top_term (tail s)) (top_term s)) ∷ tail (tail s)
put (binary And) s = formula (Form.conjunction (top_formula (tail s)) (top_formula s)) ∷ tail (tail s)
put (binary Or) s = formula (Form.disjunction (top_formula (tail s)) (top_formula s)) ∷ tail (tail s)
put (binary Implies) s = formula (Form.implication (top_formula (tail s)) (top_formula s)) ∷ tail (tail s)
put (binary Iff) s = formula (Form.equivalence (top_formula (tail s)) (top_formula s)) ∷ tail (tail s)
put (constant true) s = formula Form.truth ∷ s
put (constant false) s = formula Form.falsity ∷ s
put (relation contact) s = formula (Form.atom (Atom.contact (top_term (tail s)) (top_term s))) ∷ tail (tail s)
put (relation part) s = formula (Form.atom (Atom.part (top_term (tail s)) (top_term s))) ∷ tail (tail s)

-- the stack after a list of symbols
unfoldable pub puts : {N : Type 0} → List (Symbol N) → List (Value N) → List (Value N)
puts [] s = s
puts (x ∷ xs) s = puts xs (put x s)

-- the formula of an order
abbrev pub formula_of : {N : Type 0} → List (Symbol N) → Formula N
formula_of xs = top_formula (puts xs [])

-- ---- back from the kinds of the order and the names of the text

-- the names among symbols, in their order
module _ {N : Type 0} where
  unfoldable pub names_among : List (Symbol N) → List N
  names_among xs = collect symbol_names xs
