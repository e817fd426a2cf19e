-- What is meant: document 02, T-03: which atoms are the same. Which names are is decided, and so a decision is all that is asked of them; what
-- decides terms and atoms is made from their definitions. Assumes nothing.
use Rattle.std.specs.Prelude.{Bool, ◌||◌, ◌≡◌, refl}
use Rattle.std.proofs.Math.Bool.{decide}
use mathlib.Core.HLevel.{Discrete}
use mathlib.Core.List.{[], ◌∷◌, nil≢cons, cons≢nil, head-eq_of_cons-eq, tail-eq_of_cons-eq}
use Rattle.std.proofs.Common.{ap₂}
use Rattle.std.proofs.Math.Decide.{ℕ_discrete}
use Rattle.formula.specs.Formula.{Name, Term-discrete, Atom, Atom-discrete}

-- two names are equal or not
unfoldable pub name_discrete : Discrete Name
name_discrete [] [] = yes refl
name_discrete [] (b ∷ w) = no nil≢cons
name_discrete (a ∷ v) [] = no cons≢nil
name_discrete (a ∷ v) (b ∷ w) = both (ℕ_discrete a b) (name_discrete v w)
  where
    both : Dec (a ≡ b) → Dec (v ≡ w) → Dec (◌≡◌ {A = Name} (a ∷ v) (b ∷ w))
    both (yes p) (yes q) = yes (ap₂ ◌∷◌ p q)
    both (yes p) (no q) = no (λ e. q (tail-eq_of_cons-eq e))
    both (no p) q = no (λ e. p (head-eq_of_cons-eq e))

module _ {N : Type 0} where
  -- C with its terms exchanged; another atom as it is
  abbrev pub exchanged : Atom N → Atom N
  exchanged (Atom.contact s t) = Atom.contact t s
  exchanged (Atom.part s t) = Atom.part s t
  exchanged (Atom.empty t) = Atom.empty t

  module _ (names : Discrete N) where
    -- "the same sign and the same terms as read"
    unfoldable pub equal_atom : Atom N → Atom N → Bool
    equal_atom a b = decide (Atom-discrete (Term-discrete names) a b)

    -- "and for C also with its terms exchanged"
    unfoldable pub same_atom : Atom N → Atom N → Bool
    same_atom a b = equal_atom a b || equal_atom (exchanged a) b
