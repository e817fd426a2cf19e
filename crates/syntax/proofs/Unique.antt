-- The same tokens are one formula at most: a formula is found again from its postfix order, and the machine gives the
-- tokens one order. Assumes nothing.
use mathlib.Core.Path.{◌≡◌, refl, sym, ap, ◌∙◌}
use mathlib.Core.List.{List, [], ◌∷◌, ◌++◌}
use Rattle.formula.specs.Formula.{Term, Atom, Form, Formula, Name}
use Rattle.syntax.specs.Symbol.{Symbol}
use Rattle.syntax.specs.Grammar.{Derives}
use Rattle.syntax.specs.Postfix.{term_after, formula_after, postfix, Value, term, formula, top_formula, put, puts, formula_of}
use Rattle.syntax.specs.Machine.{Sym}
use Rattle.syntax.proofs.Complete.{complete}

module _ {N : Type 0} where
  puts_last : (l : List (Symbol N)) (x : Symbol N) (s : List (Value N)) → puts (l ++ x ∷ []) s ≡ put x (puts l s)
  unfolding puts
  puts_last [] x s = refl
  puts_last (y ∷ l) x s = puts_last l x (put y s)

  term_put : (t : Term N) (o : List (Symbol N)) (s : List (Value N)) → puts (term_after t o) s ≡ term t ∷ puts o s
  unfolding term_after
  term_put Term.zero o s = rw puts_last
  term_put Term.one o s = rw puts_last
  term_put (Term.name x) o s = rw puts_last
  term_put (Term.complement t) o s = rw (puts_last, term_put t o s)
  term_put (Term.intersection t u) o s = rw (puts_last, term_put u (term_after t o) s, term_put t o s)
  term_put (Term.union t u) o s = rw (puts_last, term_put u (term_after t o) s, term_put t o s)

  pub formula_put : (f : Formula N) (o : List (Symbol N)) (s : List (Value N)) → puts (formula_after f o) s ≡ formula f ∷ puts o s
  unfolding formula_after
  formula_put Form.truth o s = rw puts_last
  formula_put Form.falsity o s = rw puts_last
  formula_put (Form.atom (Atom.contact t u)) o s = rw (puts_last, term_put u (term_after t o) s, term_put t o s)
  formula_put (Form.atom (Atom.part t u)) o s = rw (puts_last, term_put u (term_after t o) s, term_put t o s)
  formula_put (Form.atom (Atom.empty t)) o s = rw (puts_last, term_put t o s)
  formula_put (Form.negation f) o s = rw (puts_last, formula_put f o s)
  formula_put (Form.conjunction f g) o s = rw (puts_last, formula_put g (formula_after f o) s, formula_put f o s)
  formula_put (Form.disjunction f g) o s = rw (puts_last, formula_put g (formula_after f o) s, formula_put f o s)
  formula_put (Form.implication f g) o s = rw (puts_last, formula_put g (formula_after f o) s, formula_put f o s)
  formula_put (Form.equivalence f g) o s = rw (puts_last, formula_put g (formula_after f o) s, formula_put f o s)

-- a formula is found again from its order
pub formula_back : {N : Type 0} (f : Formula N) → formula_of (postfix f) ≡ f
formula_back {N} f = ap (λ (s : List (Value N)). top_formula s) (formula_put f [] [])

-- the same tokens are no two formulas
pub unique : (xs : List Sym) (f g : Formula Name) → Derives xs f → Derives xs g → f ≡ g
unique xs f g p q =
    let e : postfix f ≡ postfix g = cc (complete xs f p, complete xs g q) in
    sym (formula_back f) ∙ ap (λ (o : List Sym). formula_of o) e ∙ formula_back g
