-- The names of a formula stand in its tokens and in its postfix order as they stand in the formula, left to right: every rule
-- of the grammar and every step of the order keeps them so. Assumes nothing.
use mathlib.Core.Path.{◌≡◌, refl, ap, ap₂, ◌∙◌}
use mathlib.Core.List.{List, [], ◌∷◌, ◌++◌, append_assoc, append-nil}
use Prim.Native.Nat.{ℕ}
use Rattle.lists.proofs.Search.{collect_append, collect_last}
use Rattle.formula.specs.declared.Sign.TheVariants.{Implies, Iff, Or, And, Plus, Times}
use Rattle.formula.specs.Formula.{Term, Atom, Form, Formula}
use Rattle.formula.specs.Names.{term_names, formula_names}
use Rattle.syntax.specs.Symbol.{Leaf, Symbol, leaf, minus, tilde, opening, closing, comma, is_zero, binary, relation, contact, part}
use Rattle.syntax.specs.Grammar.{leaf_term, IsTerm, t_leaf, t_minus, t_times, t_plus, t_parenthesis, t_looser, IsFormula, f_truth, f_falsity, f_contact, f_part, f_empty, f_tilde, f_and, f_or, f_implies, f_iff, f_parenthesis, f_looser, Derives}
use Rattle.syntax.specs.Postfix.{term_after, formula_after, postfix, symbol_names, names_among}

module _ {N : Type 0} where
  -- a sign more
  names_sign : (a : List (Symbol N)) (x : Symbol N) → symbol_names x ≡ [] → names_among (a ++ x ∷ []) ≡ names_among a
  unfolding names_among
  names_sign a x e = collect_last symbol_names a x ∙ ap (λ (l : List N). names_among a ++ l) e ∙ append-nil (names_among a)

  -- a sign between two lists
  names_between : (a b : List (Symbol N)) (x : Symbol N) → symbol_names x ≡ [] → names_among (a ++ x ∷ b) ≡ names_among a ++ names_among b
  unfolding names_among
  names_between a b x e = collect_append symbol_names a (x ∷ b) ∙ ap (λ (l : List N). names_among a ++ (l ++ names_among b)) e

  -- ---- in the order

  -- a sign after two parts, t and u, that stand behind o
  names_two : {A : Type 0} (after : A → List (Symbol N) → List (Symbol N)) (names : A → List N) (t u : A) (o : List (Symbol N)) (x : Symbol N) → symbol_names x ≡ []
      → names_among (after t o) ≡ names_among o ++ names t → names_among (after u (after t o)) ≡ names_among (after t o) ++ names u
      → names_among (after u (after t o) ++ x ∷ []) ≡ names_among o ++ (names t ++ names u)
  names_two after names t u o x s e f =
      names_sign (after u (after t o)) x s ∙ f ∙ ap (λ (l : List N). l ++ names u) e ∙ append_assoc (names_among o) (names t) (names u)

  term_order : (t : Term N) (o : List (Symbol N)) → names_among (term_after t o) ≡ names_among o ++ term_names t
  unfolding term_after names_among
  term_order Term.zero o = collect_last symbol_names o (leaf Leaf.zero)
  term_order Term.one o = collect_last symbol_names o (leaf Leaf.one)
  term_order (Term.name x) o = collect_last symbol_names o (leaf (Leaf.name x))
  term_order (Term.complement t) o = names_sign (term_after t o) minus refl ∙ term_order t o
  term_order (Term.intersection t u) o = names_two term_after term_names t u o (binary Times) refl (term_order t o) (term_order u (term_after t o))
  term_order (Term.union t u) o = names_two term_after term_names t u o (binary Plus) refl (term_order t o) (term_order u (term_after t o))

  pub formula_order : (f : Formula N) (o : List (Symbol N)) → names_among (formula_after f o) ≡ names_among o ++ formula_names f
  unfolding formula_after names_among
  formula_order Form.truth o = collect_last symbol_names o _
  formula_order Form.falsity o = collect_last symbol_names o _
  formula_order (Form.atom (Atom.contact t u)) o = names_two term_after term_names t u o (relation contact) refl (term_order t o) (term_order u (term_after t o))
  formula_order (Form.atom (Atom.part t u)) o = names_two term_after term_names t u o (relation part) refl (term_order t o) (term_order u (term_after t o))
  formula_order (Form.atom (Atom.empty t)) o = names_sign (term_after t o) is_zero refl ∙ term_order t o
  formula_order (Form.negation f) o = names_sign (formula_after f o) tilde refl ∙ formula_order f o
  formula_order (Form.conjunction f g) o = names_two formula_after formula_names f g o (binary And) refl (formula_order f o) (formula_order g (formula_after f o))
  formula_order (Form.disjunction f g) o = names_two formula_after formula_names f g o (binary Or) refl (formula_order f o) (formula_order g (formula_after f o))
  formula_order (Form.implication f g) o = names_two formula_after formula_names f g o (binary Implies) refl (formula_order f o) (formula_order g (formula_after f o))
  formula_order (Form.equivalence f g) o = names_two formula_after formula_names f g o (binary Iff) refl (formula_order f o) (formula_order g (formula_after f o))

  -- ---- in the tokens

  in_parenthesis : (ts : List (Symbol N)) → names_among (opening ∷ ts ++ closing ∷ []) ≡ names_among ts
  unfolding names_among
  in_parenthesis ts = names_sign ts closing refl

  of_leaf : (x : Leaf N) → names_among (leaf x ∷ []) ≡ term_names (leaf_term x)
  unfolding names_among
  of_leaf Leaf.zero = refl
  of_leaf Leaf.one = refl
  of_leaf (Leaf.name x) = refl

  joined : (ts us : List (Symbol N)) {a b : List N} (x : Symbol N) → symbol_names x ≡ [] → names_among ts ≡ a → names_among us ≡ b → names_among (ts ++ x ∷ us) ≡ a ++ b
  joined ts us x e g h = names_between ts us x e ∙ ap₂ ◌++◌ g h

  term_names_lem : {l : ℕ} {ts : List (Symbol N)} {t : Term N} → IsTerm l ts t → names_among ts ≡ term_names t
  unfolding names_among
  term_names_lem (t_leaf {x = x}) = of_leaf x
  term_names_lem (t_minus g) = term_names_lem g
  term_names_lem (t_times {ts = ts} {us = us} g h) = joined ts us _ refl (term_names_lem g) (term_names_lem h)
  term_names_lem (t_plus {ts = ts} {us = us} g h) = joined ts us _ refl (term_names_lem g) (term_names_lem h)
  term_names_lem (t_parenthesis {ts = ts} g) = in_parenthesis ts ∙ term_names_lem g
  term_names_lem (t_looser g) = term_names_lem g

  in_relation : (ts us : List (Symbol N)) {a b : List N} → names_among ts ≡ a → names_among us ≡ b → names_among (ts ++ (comma ∷ us ++ closing ∷ [])) ≡ a ++ b
  in_relation ts us g h = joined ts (us ++ closing ∷ []) comma refl g (names_sign us closing refl ∙ h)

  formula_names_lem : {l : ℕ} {ts : List (Symbol N)} {f : Formula N} → IsFormula l ts f → names_among ts ≡ formula_names f
  unfolding names_among
  formula_names_lem f_truth = refl
  formula_names_lem f_falsity = refl
  formula_names_lem (f_contact {ts = ts} {us = us} g h) = in_relation ts us (term_names_lem g) (term_names_lem h)
  formula_names_lem (f_part {ts = ts} {us = us} g h) = in_relation ts us (term_names_lem g) (term_names_lem h)
  formula_names_lem (f_empty {ts = ts} g) = names_sign ts _ refl ∙ term_names_lem g
  formula_names_lem (f_tilde g) = formula_names_lem g
  formula_names_lem (f_and {ts = ts} {us = us} g h) = joined ts us _ refl (formula_names_lem g) (formula_names_lem h)
  formula_names_lem (f_or {ts = ts} {us = us} g h) = joined ts us _ refl (formula_names_lem g) (formula_names_lem h)
  formula_names_lem (f_implies {ts = ts} {us = us} g h) = joined ts us _ refl (formula_names_lem g) (formula_names_lem h)
  formula_names_lem (f_iff {ts = ts} {us = us} g h) = joined ts us _ refl (formula_names_lem g) (formula_names_lem h)
  formula_names_lem (f_parenthesis {ts = ts} g) = in_parenthesis ts ∙ formula_names_lem g
  formula_names_lem (f_looser g) = formula_names_lem g

  -- the names of the tokens are those of the formula
  pub names_of_tokens : (xs : List (Symbol N)) (f : Formula N) → Derives xs f → names_among xs ≡ formula_names f
  names_of_tokens xs f d = formula_names_lem d

  -- and so are those of its order
  pub names_of_order : (f : Formula N) → names_among (postfix f) ≡ formula_names f
  unfolding names_among
  names_of_order f = formula_order f []
