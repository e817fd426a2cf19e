-- What is printed is a formula of the grammar again, and the same one: the tokens of a term or formula derive it at the level of its own
-- sign, and as an operand at the level that its position asks for. By induction on the tree. Assumes nothing.
use mathlib.Core.Path.{◌≡◌, refl, subst}
use mathlib.Core.List.{List, [], ◌∷◌, ◌++◌}
use Prim.Native.Nat.{ℕ, suc, ◌+◌, ◌-◌, ◌≤◌}
use native.Mathlib.Omega.{arith}
use lib.Dec.{ltb}
use borrow.Author.Tests.{ltb-false}
use Rattle.lists.proofs.Truth.{cases}
use Rattle.formula.specs.declared.Sign.TheVariants.{Implies, Iff, Or, And, Plus, Times}
use Rattle.formula.specs.Formula.{Term, Atom, Form, Formula}
use Rattle.formula.specs.Sign.{tightest}
use Rattle.syntax.specs.Symbol.{Symbol, opening, closing}
use Rattle.syntax.specs.Grammar.{IsTerm, IsFormula, t_leaf, t_minus, t_times, t_plus, t_parenthesis, t_looser, f_truth, f_falsity, f_contact, f_part, f_empty, f_tilde, f_and, f_or, f_implies, f_iff, f_parenthesis, f_looser, Derives}
use Rattle.printing.specs.Tokens.{OwnSign, Position, left_of, right_of, after_prefix, operand, term_sign, formula_sign, term_tokens, atom_tokens, formula_tokens}
use Rattle.printing.proofs.Levels.{own_level, asked, asked_most, by_level}

-- a relation of levels and tokens, as that of the tokens of a term or formula
module _ {N : Type 0} (R : ℕ → List (Symbol N) → Type 0) (looser : (l : ℕ) (ts : List (Symbol N)) → R (suc l) ts → R l ts) where
  -- "What is of one level is of each looser one."
  lower : (d l m : ℕ) (ts : List (Symbol N)) → m ≡ d + l → R m ts → R l ts
  lower ℕ.zero l m ts e g = let h : m ≡ l = omega arith in subst (λ (n : ℕ). R n ts) h g
  lower (suc d) l m ts e g = let h : m ≡ suc (d + l) = omega arith in lower d l (d + l) ts refl (looser (d + l) ts (subst (λ (n : ℕ). R n ts) h g))

  to_level : (l m : ℕ) (ts : List (Symbol N)) → l ≤ m → R m ts → R l ts
  to_level l m ts h g = lower (m - l) l m ts (omega arith) g

  -- an operand is of the level that its position asks for
  in_position : ((ts : List (Symbol N)) → R 0 ts → R tightest (opening ∷ ts ++ closing ∷ [])) → (p : Position) (o : OwnSign) (ts : List (Symbol N)) → R (own_level o) ts → R (asked p) (operand p o ts)
  in_position parenthesis p o ts g =
      rw (by_level p o ts)
      (cases (ltb (own_level o) (asked p))
      (λ e. rw e (to_level (asked p) tightest (opening ∷ ts ++ closing ∷ []) (asked_most p) (parenthesis ts (to_level 0 (own_level o) ts (omega arith) g))))
      (λ e. rw e (to_level (asked p) (own_level o) ts (ltb-false (own_level o) (asked p) e) g)))

module _ {N : Type 0} where
  -- ---- terms

  term_to : (l m : ℕ) {ts : List (Symbol N)} {t : Term N} → l ≤ m → IsTerm m ts t → IsTerm l ts t
  term_to l m {ts} {t} h g = to_level (λ n us. IsTerm n us t) (λ k us a. t_looser a) l m ts h g

  term_operand : (p : Position) (t : Term N) → IsTerm (own_level (term_sign t)) (term_tokens t) t → IsTerm (asked p) (operand p (term_sign t) (term_tokens t)) t
  term_operand p t g = in_position (λ n us. IsTerm n us t) (λ k us a. t_looser a) (λ us a. t_parenthesis a) p (term_sign t) (term_tokens t) g

  term_derived : (t : Term N) → IsTerm (own_level (term_sign t)) (term_tokens t) t
  unfolding term_tokens
  term_derived Term.zero = t_leaf
  term_derived Term.one = t_leaf
  term_derived (Term.name x) = t_leaf
  term_derived (Term.complement t) = t_minus (term_operand after_prefix t (term_derived t))
  term_derived (Term.intersection t u) = t_times (term_operand (left_of Times) t (term_derived t)) (term_operand (right_of Times) u (term_derived u))
  term_derived (Term.union t u) = t_plus (term_operand (left_of Plus) t (term_derived t)) (term_operand (right_of Plus) u (term_derived u))

  term_whole : (t : Term N) → IsTerm 0 (term_tokens t) t
  term_whole t = term_to 0 (own_level (term_sign t)) (omega arith) (term_derived t)

  -- ---- formulas

  formula_operand : (p : Position) (f : Formula N) → IsFormula (own_level (formula_sign f)) (formula_tokens f) f → IsFormula (asked p) (operand p (formula_sign f) (formula_tokens f)) f
  formula_operand p f g = in_position (λ n us. IsFormula n us f) (λ k us a. f_looser a) (λ us a. f_parenthesis a) p (formula_sign f) (formula_tokens f) g

  formula_derived : (f : Formula N) → IsFormula (own_level (formula_sign f)) (formula_tokens f) f
  unfolding formula_tokens atom_tokens
  formula_derived Form.truth = f_truth
  formula_derived Form.falsity = f_falsity
  formula_derived (Form.atom (Atom.contact t u)) = f_contact (term_whole t) (term_whole u)
  formula_derived (Form.atom (Atom.part t u)) = f_part (term_whole t) (term_whole u)
  formula_derived (Form.atom (Atom.empty t)) = f_empty (term_whole t)
  formula_derived (Form.negation f) = f_tilde (formula_operand after_prefix f (formula_derived f))
  formula_derived (Form.conjunction f g) = f_and (formula_operand (left_of And) f (formula_derived f)) (formula_operand (right_of And) g (formula_derived g))
  formula_derived (Form.disjunction f g) = f_or (formula_operand (left_of Or) f (formula_derived f)) (formula_operand (right_of Or) g (formula_derived g))
  formula_derived (Form.implication f g) = f_implies (formula_operand (left_of Implies) f (formula_derived f)) (formula_operand (right_of Implies) g (formula_derived g))
  formula_derived (Form.equivalence f g) = f_iff (formula_operand (left_of Iff) f (formula_derived f)) (formula_operand (right_of Iff) g (formula_derived g))

  -- the tokens that are printed are the formula
  pub derives : (f : Formula N) → Derives (formula_tokens f) f
  derives f = to_level (λ n us. IsFormula n us f) (λ k us a. f_looser a) 0 (own_level (formula_sign f)) (formula_tokens f) (omega arith) (formula_derived f)
