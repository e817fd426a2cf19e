-- For proofs: a machine which no contract names: what is computed, on terms in place of sets. A formula's order is passed once, from left
-- to right. The terms that are whole wait on a stack, its top first; an atom is put behind those before where it is none of them, and
-- the code is written with its place among them. Assumes nothing.
use Rattle.std.specs.Prelude.{true, false, ℕ}
use mathlib.Core.List.{List, [], ◌∷◌, ◌++◌, tail}
use Rattle.std.proofs.Math.Decide.{ℕ_discrete}
use Rattle.formula.specs.declared.Sign.TheVariants.{Implies, Iff, Or, And, Plus, Times}
use Rattle.formula.specs.Formula.{Term, Atom}
use Rattle.formula.specs.Same.{same_atom}
use Rattle.contact.specs.Numbering.{position}
use Rattle.contact.specs.Putting.{put}
use Rattle.kleene.specs.Code.{atom_sign}
use Rattle.syntax.specs.Symbol.{Leaf, Symbol, leaf, minus, tilde, opening, closing, comma, is_zero, binary, constant, relation, contact, part}

pub record State : Type 0 where
  pub terms : List (Term ℕ)
  pub atoms : List (Atom ℕ)
  pub code : List ℕ

-- the top of the stack; only the order of no formula finds the stack empty
abbrev pub top : List (Term ℕ) → Term ℕ
top [] = Term.zero
top (t ∷ ts) = t

-- the atoms with one put behind them, and its number
abbrev pub with_put : List (Atom ℕ) → Atom ℕ → List (Atom ℕ)
with_put = put (same_atom ℕ_discrete)

abbrev pub place_in : List (Atom ℕ) → Atom ℕ → ℕ
place_in = position (same_atom ℕ_discrete)

-- the state with other terms; with an atom put behind the atoms, and its sign; with a sign more
abbrev pub with_terms : List (Term ℕ) → State → State
with_terms ts s = record { terms = ts; atoms = s.atoms; code = s.code }

abbrev pub with_atom : Atom ℕ → List (Term ℕ) → State → State
with_atom a ts s = record { terms = ts; atoms = with_put s.atoms a; code = s.code ++ atom_sign (place_in s.atoms a) ∷ [] }

abbrev pub with_sign : ℕ → State → State
with_sign c s = record { terms = s.terms; atoms = s.atoms; code = s.code ++ c ∷ [] }

-- before the first symbol
abbrev pub start : List (Atom ℕ) → State
start atoms = record { terms = []; atoms = atoms; code = [] }

-- names have the numbers g
module _ {N : Type 0} (g : N → ℕ) where
  abbrev pub leaf_term : Leaf N → Term ℕ
  leaf_term Leaf.zero = Term.zero
  leaf_term Leaf.one = Term.one
  leaf_term (Leaf.name x) = Term.name (g x)

  -- one symbol
  abbrev pub step : Symbol N → State → State
  step (leaf x) s = with_terms (leaf_term x ∷ s.terms) s
  step minus s = with_terms (Term.complement (top s.terms) ∷ tail s.terms) s
  step (binary Times) s = with_terms (Term.intersection (top (tail s.terms)) (top s.terms) ∷ tail (tail s.terms)) s
  step (binary Plus) s = with_terms (Term.union (top (tail s.terms)) (top s.terms) ∷ tail (tail s.terms)) s
  step is_zero s = with_atom (Atom.empty (top s.terms)) (tail s.terms) s
  step (relation contact) s = with_atom (Atom.contact (top (tail s.terms)) (top s.terms)) (tail (tail s.terms)) s
  step (relation part) s = with_atom (Atom.part (top (tail s.terms)) (top s.terms)) (tail (tail s.terms)) s
  step tilde s = with_sign 0 s
  step (binary And) s = with_sign 1 s
  step (binary Or) s = with_sign 2 s
  step (binary Implies) s = with_sign 3 s
  step (binary Iff) s = with_sign 4 s
  step (constant false) s = with_sign 5 s
  step (constant true) s = with_sign 6 s
  step opening s = s
  step closing s = s
  step comma s = s

  -- a list of symbols
  unfoldable pub run : List (Symbol N) → State → State
  run [] s = s
  run (x ∷ xs) s = run xs (step x s)
