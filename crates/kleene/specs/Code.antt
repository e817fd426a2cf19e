-- What is computed, and for proofs which code a stack of bounded height can run: a formula over atom numbers as postfix code, a number for
-- each sign. Assumes nothing.
use Rattle.std.specs.Prelude.{◌≡◌, List, [], ◌∷◌, ◌++◌, ℕ, zero, suc, ◌+◌, ◌-◌, ◌≤◌, ◌<◌}
use Rattle.formula.specs.Formula.{Form}

-- the sign of atom i, which is 7 + i
abbrev pub atom_sign : ℕ → ℕ
atom_sign i = suc (suc (suc (suc (suc (suc (suc i))))))

-- ~ is 0, & 1, | 2, -> 3, <-> 4, F 5 and T 6
unfoldable pub postfix : Form ℕ → List ℕ
postfix Form.truth = 6 ∷ []
postfix Form.falsity = 5 ∷ []
postfix (Form.atom i) = atom_sign i ∷ []
postfix (Form.negation f) = postfix f ++ 0 ∷ []
postfix (Form.conjunction f g) = postfix f ++ (postfix g ++ 1 ∷ [])
postfix (Form.disjunction f g) = postfix f ++ (postfix g ++ 2 ∷ [])
postfix (Form.implication f g) = postfix f ++ (postfix g ++ 3 ∷ [])
postfix (Form.equivalence f g) = postfix f ++ (postfix g ++ 4 ∷ [])

-- a sign turns the top of the stack, joins the two values on top, or pushes one
pub data Class : Type 0 where
  turns joins pushes : Class

abbrev pub class_of : ℕ → Class
class_of zero = turns
class_of (suc zero) = joins
class_of (suc (suc zero)) = joins
class_of (suc (suc (suc zero))) = joins
class_of (suc (suc (suc (suc zero)))) = joins
class_of (suc (suc (suc (suc (suc c))))) = pushes

-- how many values are on the stack after a sign, from n
abbrev pub after : Class → ℕ → ℕ
after turns n = n
after joins n = n - 1
after pushes n = suc n

-- the sign c finds what it takes among n values: at most `deep` at a time, and atoms below `many`
abbrev pub Takes : ℕ → ℕ → Class → ℕ → ℕ → Type 0
Takes deep many turns c n = 1 ≤ n
Takes deep many joins c n = 2 ≤ n
Takes deep many pushes c n = (n < deep) × (c < 7 + many)

-- each sign of the code does, from a stack of n, and one value is left
unfoldable pub Safe : ℕ → ℕ → List ℕ → ℕ → Type 0
Safe deep many [] n = n ≡ 1
Safe deep many (c ∷ cs) n = Takes deep many (class_of c) c n × Safe deep many cs (after (class_of c) n)
