-- One symbol: the stack of sets and the row of symbols follow the stack of terms, an atom's sign finds the sets and the symbols of its
-- terms, and another sign writes its code. Assumes nothing.
use mathlib.Core.Bool.{Bool, true, false, cond}
use mathlib.Core.Path.{◌≡◌, refl, sym, ap, ap₂, ◌∙◌}
use mathlib.Core.List.{List, [], ◌∷◌, ◌++◌, append_assoc, append-nil}
use Prim.Native.Nat.{ℕ, suc, ◌+◌, ◌-◌, ◌≤◌, ◌<◌}
use native.Mathlib.Omega.{arith}
use lib.Dec.{eqb}
use lib.ListN.{length, set}
use borrow.Author.Tests.{eqb-true}
use Rattle.formula.specs.declared.Sign.TheVariants.{Implies, Iff, Or, And, Plus, Times}
use Rattle.formula.specs.Formula.{Term, Atom, Name}
use Rattle.formula.specs.Atoms.{is_contact}
use Rattle.syntax.specs.Symbol.{Leaf, leaf, minus, tilde, opening, closing, comma, is_zero, binary, constant, relation, contact, part}
use Rattle.syntax.specs.Postfix.{symbol_names}
use Rattle.syntax.specs.Machine.{Sym}
use Rattle.syntax.specs.Reader.{code}
use Rattle.evalset.specs.declared.EvalSet.{EvalSet}
use Rattle.evalset.specs.Most.{most}
use Rattle.evalset.specs.Sets.{mem, mem_at, full_of, meet_of, join_of, minus_of}
use Rattle.lists.proofs.Truth.{clash, cases, cond_holds}
use Rattle.evalset.proofs.Arrays.{mem_at_same, mem_at_other}
use Rattle.spelling.specs.Symbols.{spelled, symbols_of}
use Rattle.compile.specs.Kinds.{taken_by, term_kind, atom_kind, names_by, set_by, symbol_by, first_by, second_by, sign_by}
use Rattle.compile.specs.Chart.{set_of, first_set, second_set}
use Rattle.compile.specs.Machine.{State, with_atom, with_sign, step}
use Rattle.compile.proofs.Sets.{of_zero, of_one, of_name, of_intersection, of_union, of_part, of_complement}
use Rattle.compile.proofs.Heights.{Proper}

-- ---- the stack

-- the places of the stack, from the bottom up, hold the sets of the terms, whose top is first
abbrev pub Stacked : List EvalSet → List (Term ℕ) → Type 0
Stacked st [] = Unit {0}
Stacked st (t ∷ ts) = (mem_at st (length ts) ≡ set_of t) × Stacked st ts

stacked_below : (ts : List (Term ℕ)) (st : List EvalSet) (n : ℕ) (r : EvalSet) → length ts ≤ n → Stacked st ts → Stacked (set st n r) ts
stacked_below [] st n r l h = tt
stacked_below (t ∷ ts) st n r l h = (mem_at_other st n (length ts) r (λ e. omega arith) ∙ h.0, stacked_below ts st n r (omega arith) h.1)

-- the set below one term, and the one above it
module _ (st : List EvalSet) (h : ℕ) (ts : List (Term ℕ)) (e : h ≡ length ts) where
  one_down : (t : Term ℕ) → Stacked st (t ∷ ts) → mem_at st h ≡ set_of t
  one_down t s = ap (mem_at st) e ∙ s.0

  two_down : (u t : Term ℕ) → Stacked st (u ∷ (t ∷ ts)) → mem_at st (h + 1) ≡ set_of u
  two_down u t s = let z : h + 1 ≡ suc (length ts) = omega arith in ap (mem_at st) z ∙ s.0

-- the symbols of the terms, from the bottom up
abbrev pub spelled_all : List (Term ℕ) → List ℕ
spelled_all [] = []
spelled_all (t ∷ ts) = spelled_all ts ++ spelled t

-- what a symbol of a term leaves: h is the place of its set, v its symbol
pub record Put (st : List EvalSet) (h v : ℕ) (s r : State) : Type 0 where
  pub stacked : Stacked st r.terms
  pub high : h + 1 ≡ length r.terms
  pub spells : spelled_all r.terms ≡ spelled_all s.terms ++ v ∷ []
  pub same_atoms : r.atoms ≡ s.atoms
  pub same_code : r.code ≡ s.code

module _ (g : Name → ℕ) (st : List EvalSet) (set-r : EvalSet) (k n h : ℕ) (atoms : List (Atom ℕ)) (cs : List ℕ) (fits : h < length st) where
  abbrev state : List (Term ℕ) → State
  state ts = record { terms = ts; atoms = atoms; code = cs }

  put : (t : Term ℕ) (ts us : List (Term ℕ)) (v : ℕ) → h ≡ length ts → Stacked st ts → mem set-r ≡ set_of t → spelled_all (t ∷ ts) ≡ spelled_all us ++ v ∷ []
      → Put (set st h set-r) h v (state us) (state (t ∷ ts))
  put t ts us v e s m w =
      record {
        stacked = (ap (mem_at (set st h set-r)) (sym e) ∙ mem_at_same st h set-r fits ∙ m, stacked_below ts st h set-r (omega arith) s);
        high = omega arith;
        spells = w;
        same_atoms = refl;
        same_code = refl;
      }

  -- the sign of two terms behind their symbols
  behind_two : (ts : List (Term ℕ)) (t u : Term ℕ) (v : ℕ) → spelled_all ts ++ (spelled t ++ (spelled u ++ v ∷ [])) ≡ ((spelled_all ts ++ spelled t) ++ spelled u) ++ v ∷ []
  behind_two ts t u v =
      sym (append_assoc (spelled_all ts ++ spelled t) (spelled u) (v ∷ []) ∙ append_assoc (spelled_all ts) (spelled t) (spelled u ++ v ∷ []))

  pub term_step : (x : Sym) (ts : List (Term ℕ)) → term_kind (code x) ≡ true → n ≡ length ts → taken_by (code x) ≤ n → h ≡ n - taken_by (code x)
      → Stacked st ts → ((y : Name) → x ≡ leaf (Leaf.name y) → k ≡ g y) → mem set-r ≡ set_by (code x) k (mem_at st h) (mem_at st (h + 1))
      → Put (set st h set-r) h (symbol_by (code x) k) (state ts) (step g x (state ts))
  unfolding taken_by term_kind set_by symbol_by
  term_step (leaf Leaf.zero) ts q e l d s w m = put Term.zero ts ts 0 (omega arith) s (m ∙ of_zero) refl
  term_step (leaf Leaf.one) ts q e l d s w m = put Term.one ts ts 1 (omega arith) s (m ∙ of_one) refl
  term_step (leaf (Leaf.name y)) ts q e l d s w m =
      put (Term.name (g y)) ts ts (5 + k) (omega arith) s (m ∙ of_name k ∙ ap (λ (i : ℕ). set_of (Term.name i)) (w y refl))
      (ap (λ (i : ℕ). spelled_all ts ++ (5 + i) ∷ []) (sym (w y refl)))
  term_step minus [] q e l d s w m = absurd (omega arith)
  term_step minus (t ∷ ts) q e l d s w m =
      let z : h ≡ length ts = omega arith in
      put (Term.complement t) ts (t ∷ ts) 2 z s.1 (m ∙ ap (minus_of full_of) (one_down st h ts z t s) ∙ of_complement t)
      (sym (append_assoc (spelled_all ts) (spelled t) (2 ∷ [])))
  term_step (binary Times) [] q e l d s w m = absurd (omega arith)
  term_step (binary Times) (u ∷ []) q e l d s w m = absurd (omega arith)
  term_step (binary Times) (u ∷ (t ∷ ts)) q e l d s w m =
      let z : h ≡ length ts = omega arith in
      put (Term.intersection t u) ts (u ∷ (t ∷ ts)) 3 z s.1.1 (m ∙ ap₂ meet_of (one_down st h ts z t s.1) (two_down st h ts z u t s) ∙ of_intersection t u)
      (behind_two ts t u 3)
  term_step (binary Plus) [] q e l d s w m = absurd (omega arith)
  term_step (binary Plus) (u ∷ []) q e l d s w m = absurd (omega arith)
  term_step (binary Plus) (u ∷ (t ∷ ts)) q e l d s w m =
      let z : h ≡ length ts = omega arith in
      put (Term.union t u) ts (u ∷ (t ∷ ts)) 4 z s.1.1 (m ∙ ap₂ join_of (one_down st h ts z t s.1) (two_down st h ts z u t s) ∙ of_union t u)
      (behind_two ts t u 4)
  term_step (binary Implies) ts q e l d s w m = clash q refl
  term_step (binary Iff) ts q e l d s w m = clash q refl
  term_step (binary Or) ts q e l d s w m = clash q refl
  term_step (binary And) ts q e l d s w m = clash q refl
  term_step tilde ts q e l d s w m = clash q refl
  term_step opening ts q e l d s w m = clash q refl
  term_step closing ts q e l d s w m = clash q refl
  term_step comma ts q e l d s w m = clash q refl
  term_step is_zero ts q e l d s w m = clash q refl
  term_step (constant true) ts q e l d s w m = clash q refl
  term_step (constant false) ts q e l d s w m = clash q refl
  term_step (relation contact) ts q e l d s w m = clash q refl
  term_step (relation part) ts q e l d s w m = clash q refl

-- the atom that a sign makes, where its terms are alone on the stack: its symbols are those of the row, its sets those of the stack
pub record Made (st : List EvalSet) (x : Sym) (s q : State) : Type 0 where
  pub atom : Atom ℕ
  pub made : q ≡ with_atom atom [] s
  pub spells : spelled_all s.terms ≡ symbols_of atom
  pub sign : eqb (code x) 14 ≡ is_contact atom
  pub first : first_by (code x) (mem_at st 0) (mem_at st 1) ≡ first_set atom
  pub second : second_by (code x) (mem_at st 1) ≡ second_set atom

module _ (g : Name → ℕ) (st : List EvalSet) (atoms : List (Atom ℕ)) (cs : List ℕ) where
  two_spelled : (t u : Term ℕ) → spelled t ++ spelled u ≡ spelled t ++ (spelled u ++ [])
  two_spelled t u = ap (λ (l : List ℕ). spelled t ++ l) (sym (append-nil (spelled u)))

  pub atom_step : (x : Sym) (ts : List (Term ℕ)) → atom_kind (code x) ≡ true → taken_by (code x) ≡ length ts → Stacked st ts
      → Made st x (record { terms = ts; atoms = atoms; code = cs }) (step g x (record { terms = ts; atoms = atoms; code = cs }))
  unfolding taken_by atom_kind first_by second_by
  atom_step is_zero [] q e s = absurd (omega arith)
  atom_step is_zero (t ∷ []) q e s =
      record { atom = Atom.empty t; made = refl; spells = sym (append-nil (spelled t)); sign = refl; first = s.0; second = refl }
  atom_step is_zero (u ∷ (t ∷ ts)) q e s = absurd (omega arith)
  atom_step (relation contact) [] q e s = absurd (omega arith)
  atom_step (relation contact) (u ∷ []) q e s = absurd (omega arith)
  atom_step (relation contact) (u ∷ (t ∷ [])) q e s =
      record { atom = Atom.contact t u; made = refl; spells = two_spelled t u; sign = refl; first = s.1.0; second = s.0 }
  atom_step (relation contact) (u ∷ (t ∷ (w ∷ ts))) q e s = absurd (omega arith)
  atom_step (relation part) [] q e s = absurd (omega arith)
  atom_step (relation part) (u ∷ []) q e s = absurd (omega arith)
  atom_step (relation part) (u ∷ (t ∷ [])) q e s =
      record { atom = Atom.part t u; made = refl; spells = two_spelled t u; sign = refl; first = ap₂ minus_of s.1.0 s.0 ∙ of_part t u; second = refl }
  atom_step (relation part) (u ∷ (t ∷ (w ∷ ts))) q e s = absurd (omega arith)
  atom_step (leaf Leaf.zero) ts q e s = clash q refl
  atom_step (leaf Leaf.one) ts q e s = clash q refl
  atom_step (leaf (Leaf.name y)) ts q e s = clash q refl
  atom_step minus ts q e s = clash q refl
  atom_step tilde ts q e s = clash q refl
  atom_step opening ts q e s = clash q refl
  atom_step closing ts q e s = clash q refl
  atom_step comma ts q e s = clash q refl
  atom_step (binary Implies) ts q e s = clash q refl
  atom_step (binary Iff) ts q e s = clash q refl
  atom_step (binary Or) ts q e s = clash q refl
  atom_step (binary And) ts q e s = clash q refl
  atom_step (binary Plus) ts q e s = clash q refl
  atom_step (binary Times) ts q e s = clash q refl
  atom_step (constant true) ts q e s = clash q refl
  atom_step (constant false) ts q e s = clash q refl

-- any other symbol is a connective or a constant: it takes no set, and only its code is written
pub sign_step : (g : Name → ℕ) (x : Sym) (s : State) → Proper x → term_kind (code x) ≡ false → atom_kind (code x) ≡ false
    → (step g x s ≡ with_sign (sign_by (code x)) s) × (taken_by (code x) ≡ 0)
unfolding taken_by term_kind atom_kind sign_by
sign_step g tilde s p q a = (refl, refl)
sign_step g (binary Implies) s p q a = (refl, refl)
sign_step g (binary Iff) s p q a = (refl, refl)
sign_step g (binary Or) s p q a = (refl, refl)
sign_step g (binary And) s p q a = (refl, refl)
sign_step g (constant true) s p q a = (refl, refl)
sign_step g (constant false) s p q a = (refl, refl)
sign_step g opening s p q a = absurd p
sign_step g closing s p q a = absurd p
sign_step g comma s p q a = absurd p
sign_step g (leaf Leaf.zero) s p q a = clash refl q
sign_step g (leaf Leaf.one) s p q a = clash refl q
sign_step g (leaf (Leaf.name y)) s p q a = clash refl q
sign_step g minus s p q a = clash refl q
sign_step g (binary Plus) s p q a = clash refl q
sign_step g (binary Times) s p q a = clash refl q
sign_step g is_zero s p q a = clash refl a
sign_step g (relation contact) s p q a = clash refl a
sign_step g (relation part) s p q a = clash refl a

-- ---- names

-- a symbol is as many names as its kind says
pub names_by_lem : (x : Sym) → length (symbol_names x) ≡ names_by (code x)
unfolding names_by
names_by_lem (leaf Leaf.zero) = refl
names_by_lem (leaf Leaf.one) = refl
names_by_lem (leaf (Leaf.name y)) = refl
names_by_lem minus = refl
names_by_lem tilde = refl
names_by_lem opening = refl
names_by_lem closing = refl
names_by_lem comma = refl
names_by_lem is_zero = refl
names_by_lem (binary Implies) = refl
names_by_lem (binary Iff) = refl
names_by_lem (binary Or) = refl
names_by_lem (binary And) = refl
names_by_lem (binary Plus) = refl
names_by_lem (binary Times) = refl
names_by_lem (constant true) = refl
names_by_lem (constant false) = refl
names_by_lem (relation contact) = refl
names_by_lem (relation part) = refl

name_term : term_kind 18 ≡ true
unfolding term_kind
name_term = refl

-- none, outside of terms
pub no_name : (k : ℕ) → term_kind k ≡ false → names_by k ≡ 0
unfolding names_by
no_name k h = cases (eqb k 18) (λ e. clash (ap term_kind (eqb-true k 18 e) ∙ name_term) h) (λ e. ap (λ (b : Bool). cond b 1 0) e)

pub one_at_most : (k : ℕ) → names_by k ≤ 1
unfolding names_by
one_at_most k = cases (eqb k 18) (λ e. rw e (omega arith)) (λ e. rw e (omega arith))

-- ---- symbols

-- all are below 16, since there are at most 11 names
pub name_small : (name : ℕ) → name < most → 5 + name < 16
name_small name l = omega arith

pub symbol_small : (k name : ℕ) → name < most → symbol_by k name < 16
unfolding symbol_by
symbol_small k name l =
    let small : ℕ → Type 0 = λ v. v < 16 in
    cond_holds small (eqb k 16) _ _ (omega arith)
    (cond_holds small (eqb k 17) _ _ (omega arith)
    (cond_holds small (eqb k 6) _ _ (omega arith)
    (cond_holds small (eqb k 5) _ _ (omega arith) (cond_holds small (eqb k 4) _ _ (omega arith) (name_small name l)))))
