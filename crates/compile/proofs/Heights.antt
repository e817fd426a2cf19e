-- In the order of a formula each symbol finds on the stack what it is put on, since that stands just before it; a symbol of no term finds
-- nothing else, since a formula leaves no term. Assumes nothing.
use mathlib.Core.Bool.{true, false}
use mathlib.Core.Path.{◌≡◌, refl, sym, ap, subst, ◌∙◌}
use mathlib.Core.List.{List, [], ◌∷◌, ◌++◌}
use mathlib.Core.Logic.{⊎_elim}
use Prim.Native.Nat.{ℕ, suc, ◌≤◌, ◌<◌}
use native.Mathlib.Omega.{arith}
use lib.ListN.{length, get_or, take, length-append, get_or-append}
use lib.Seq.{take-append-le, take-append_seam, get_or-append_seam}
use Rattle.lists.proofs.Truth.{side, clash}
use Rattle.formula.specs.Formula.{Term, Atom, Form, Formula, Name}
use Rattle.syntax.specs.Symbol.{leaf, minus, tilde, opening, closing, comma, is_zero, binary, constant, relation}
use Rattle.syntax.specs.Postfix.{term_after, formula_after, postfix}
use Rattle.syntax.specs.Machine.{Sym}
use Rattle.syntax.specs.Reader.{code}
use Rattle.compile.specs.Kinds.{taken_by, term_kind}
use Rattle.compile.specs.Machine.{State, run}
use Rattle.compile.proofs.Orders.{term_run, terms_run, formula_run}

-- the symbol at a place
abbrev pub symbol_at : List Sym → ℕ → Sym
symbol_at xs i = get_or xs i opening

-- a symbol that stands in an order
abbrev pub Proper : Sym → Type 0
Proper (leaf x) = Unit {0}
Proper minus = Unit {0}
Proper tilde = Unit {0}
Proper opening = ⊥
Proper closing = ⊥
Proper comma = ⊥
Proper is_zero = Unit {0}
Proper (binary b) = Unit {0}
Proper (constant b) = Unit {0}
Proper (relation c) = Unit {0}

module _ (g : Name → ℕ) (s : State) where
  -- the symbol is proper, and finds the terms that it takes behind the symbols o; outside of terms, these alone
  pub record Finds (o : List Sym) (x : Sym) : Type 0 where
    pub proper : Proper x
    pub enough : taken_by (code x) ≤ length (run g o s).terms
    pub alone : term_kind (code x) ≡ false → taken_by (code x) ≡ length (run g o s).terms

  abbrev Fine : List Sym → Type 0
  Fine o = (i : ℕ) → i < length o → Finds (take i o) (symbol_at o i)

  fine_last : (o : List Sym) (x : Sym) → Fine o → Finds o x → Fine (o ++ x ∷ [])
  fine_last o x h f i l =
      ⊎_elim
      (λ q.
      subst (λ (y : Sym). Finds (take i (o ++ x ∷ [])) y) (sym (get_or-append o (x ∷ []) opening i q))
      (subst (λ (p : List Sym). Finds p (symbol_at o i)) (sym (take-append-le i o (x ∷ []) (omega arith))) (h i q)))
      (λ q.
      let z : length o ≡ i = omega (arith, length-append o (x ∷ [])) in
      subst (λ (j : ℕ). Finds (take j (o ++ x ∷ [])) (symbol_at (o ++ x ∷ []) j)) z
      (subst (λ (y : Sym). Finds (take (length o) (o ++ x ∷ [])) y) (sym (get_or-append_seam o x [] opening))
      (subst (λ (p : List Sym). Finds p x) (sym (take-append_seam o (x ∷ []))) f)))
      (side i (length o))

  -- how many terms there are behind one more, and behind two
  one_more : (t : Term Name) (o : List Sym) → length (run g (term_after t o) s).terms ≡ suc (length (run g o s).terms)
  one_more t o = ap (λ (r : State). length r.terms) (term_run g t o s)

  two_more : (t u : Term Name) (o : List Sym) → length (run g (term_after u (term_after t o)) s).terms ≡ suc (suc (length (run g o s).terms))
  two_more t u o = ap (λ (r : State). length r.terms) (terms_run g t u o s)

  -- a symbol of a term
  of_term : (o : List Sym) (x : Sym) → Proper x → taken_by (code x) ≤ length (run g o s).terms → term_kind (code x) ≡ true → Finds o x
  of_term o x p l q = record { proper = p; enough = l; alone = λ r. clash q r }

  -- a sign of a formula
  of_formula : (o : List Sym) (x : Sym) → Proper x → taken_by (code x) ≡ length (run g o s).terms → Finds o x
  of_formula o x p e = record { proper = p; enough = omega arith; alone = λ r. e }

  term_fine : (t : Term Name) (o : List Sym) → Fine o → Fine (term_after t o)
  unfolding term_after taken_by term_kind
  term_fine Term.zero o h = fine_last o _ h (of_term o _ tt (omega arith) refl)
  term_fine Term.one o h = fine_last o _ h (of_term o _ tt (omega arith) refl)
  term_fine (Term.name x) o h = fine_last o _ h (of_term o _ tt (omega arith) refl)
  term_fine (Term.complement t) o h = fine_last (term_after t o) _ (term_fine t o h) (of_term _ _ tt (omega (arith, one_more t o)) refl)
  term_fine (Term.intersection t u) o h =
      fine_last (term_after u (term_after t o)) _ (term_fine u (term_after t o) (term_fine t o h)) (of_term _ _ tt (omega (arith, two_more t u o)) refl)
  term_fine (Term.union t u) o h =
      fine_last (term_after u (term_after t o)) _ (term_fine u (term_after t o) (term_fine t o h)) (of_term _ _ tt (omega (arith, two_more t u o)) refl)

  -- behind no term stands no term
  abbrev Bare : List Sym → Type 0
  Bare o = length (run g o s).terms ≡ 0

  -- nor behind a formula
  still_bare : (f : Formula Name) (o : List Sym) → Bare o → Bare (formula_after f o)
  still_bare f o e = ap (λ (r : State). length r.terms) (formula_run g f o s) ∙ e

  -- a sign behind two formulas
  both_fine : (f k : Formula Name) (o : List Sym) (x : Sym) → Proper x → taken_by (code x) ≡ 0 → Fine (formula_after k (formula_after f o)) → Bare o
      → Fine (formula_after k (formula_after f o) ++ x ∷ [])
  both_fine f k o x p z h e =
      fine_last (formula_after k (formula_after f o)) x h (of_formula _ x p (z ∙ sym (still_bare k (formula_after f o) (still_bare f o e))))

  formula_fine : (f : Formula Name) (o : List Sym) → Fine o → Bare o → Fine (formula_after f o)
  unfolding formula_after taken_by
  formula_fine Form.truth o h e = fine_last o _ h (of_formula o _ tt (sym e))
  formula_fine Form.falsity o h e = fine_last o _ h (of_formula o _ tt (sym e))
  formula_fine (Form.atom (Atom.contact t u)) o h e =
      fine_last (term_after u (term_after t o)) _ (term_fine u (term_after t o) (term_fine t o h)) (of_formula _ _ tt (omega (arith, two_more t u o)))
  formula_fine (Form.atom (Atom.part t u)) o h e =
      fine_last (term_after u (term_after t o)) _ (term_fine u (term_after t o) (term_fine t o h)) (of_formula _ _ tt (omega (arith, two_more t u o)))
  formula_fine (Form.atom (Atom.empty t)) o h e = fine_last (term_after t o) _ (term_fine t o h) (of_formula _ _ tt (omega (arith, one_more t o)))
  formula_fine (Form.negation f) o h e = fine_last (formula_after f o) _ (formula_fine f o h e) (of_formula _ _ tt (sym (still_bare f o e)))
  formula_fine (Form.conjunction f k) o h e =
      both_fine f k o _ tt refl (formula_fine k (formula_after f o) (formula_fine f o h e) (still_bare f o e)) e
  formula_fine (Form.disjunction f k) o h e =
      both_fine f k o _ tt refl (formula_fine k (formula_after f o) (formula_fine f o h e) (still_bare f o e)) e
  formula_fine (Form.implication f k) o h e =
      both_fine f k o _ tt refl (formula_fine k (formula_after f o) (formula_fine f o h e) (still_bare f o e)) e
  formula_fine (Form.equivalence f k) o h e =
      both_fine f k o _ tt refl (formula_fine k (formula_after f o) (formula_fine f o h e) (still_bare f o e)) e

  pub order_fine : (f : Formula Name) → s.terms ≡ [] → Fine (postfix f)
  unfolding run
  order_fine f e = formula_fine f [] (λ i l. absurd (omega arith)) (ap length e)
