-- What is proved of atoms that are the same (document 02, T-03), sign by sign and for names of any type of which equality is decided.
-- Equality is that of the trees as read. Assumes nothing.
use mathlib.Core.Bool.{Bool, true, false, decide}
use mathlib.Core.HLevel.{Discrete}
use mathlib.Core.List.{List, [], ◌∷◌, map}
use mathlib.Core.Logic.{◌⊎◌, ◌↔◌}
use mathlib.Core.Path.{◌≡◌, refl}
use Prim.Native.Nat.{ℕ}
use native.Mathlib.Decide.{ℕ_discrete}
use Rattle.formula.specs.Formula.{Term, Atom}
use Rattle.formula.specs.Same.{equal_atom, same_atom}
use Rattle.formula.proofs.Same

module _ {N : Type 0} (names : Discrete N) where
  -- "the same sign": 0 for C, 1 for <=, 2 for =0
  pub same_sign : (a b : Atom N) → same_atom names a b ≡ true → Same.sign_of a ≡ Same.sign_of b
  same_sign = Same.same_sign names

  -- "and the same terms as read, and for C also with its terms exchanged"
  pub same_contact : (s t u v : Term N)
      → (same_atom names (Atom.contact s t) (Atom.contact u v) ≡ true) ↔ (((s ≡ u) × (t ≡ v)) ⊎ ((s ≡ v) × (t ≡ u)))
  same_contact = Same.same_contact names

  pub same_part : (s t u v : Term N) → (same_atom names (Atom.part s t) (Atom.part u v) ≡ true) ↔ ((s ≡ u) × (t ≡ v))
  same_part = Same.same_part names

  pub same_empty : (s t : Term N) → (same_atom names (Atom.empty s) (Atom.empty t) ≡ true) ↔ (s ≡ t)
  same_empty = Same.same_empty names

-- ---- pairs of atoms, over the names 0, 1 and 2

abbrev a : Term ℕ
a = Term.name 0

abbrev b : Term ℕ
b = Term.name 1

abbrev c : Term ℕ
c = Term.name 2

-- two atoms, and whether they are the same
pub record Pair : Type 0 where
  pub one : Atom ℕ
  pub other : Atom ℕ
  pub answer : Bool

abbrev pair : Atom ℕ → Atom ℕ → Bool → Pair
pair x y t = record { one = x; other = y; answer = t }

-- C(a,b) and C(b,a); C(a,b) and C(-b,-a); <=(a,b) and <=(b,a); <=(a,b) and a*-b=0; a*b=0 and b*a=0; a*(b*c)=0 and a*b*c=0; --a=0 and a=0; a+b=0 and
-- a*b=0; C(a,b) and <=(a,b)
abbrev pub pairs : List Pair
pairs =
    pair (Atom.contact a b) (Atom.contact b a) true
    ∷ pair (Atom.contact a b) (Atom.contact (Term.complement b) (Term.complement a)) false
    ∷ pair (Atom.part a b) (Atom.part b a) false
    ∷ pair (Atom.part a b) (Atom.empty (Term.intersection a (Term.complement b))) false
    ∷ pair (Atom.empty (Term.intersection a b)) (Atom.empty (Term.intersection b a)) false
    ∷ pair (Atom.empty (Term.intersection a (Term.intersection b c))) (Atom.empty (Term.intersection (Term.intersection a b) c)) false
    ∷ pair (Atom.empty (Term.complement (Term.complement a))) (Atom.empty a) false
    ∷ pair (Atom.empty (Term.union a b)) (Atom.empty (Term.intersection a b)) false
    ∷ pair (Atom.contact a b) (Atom.part a b) false
    ∷ []

pub pairs_decided : map (λ p. same_atom ℕ_discrete p.one p.other) pairs ≡ map (λ p. p.answer) pairs
unfolding same_atom equal_atom decide ℕ_discrete
pairs_decided = refl
