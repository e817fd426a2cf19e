-- What is computed: the check of a row by pairs of evaluations. A mark that demands something (a true contact, a false zero atom) is served
-- by a pair; a mark that restricts (a false contact, a true zero atom) takes away exactly the pairs that would serve its atom. So a row,
-- whole or partial, is judged by which pairs are left and what they serve. For any number of names. Assumes nothing.
use Rattle.std.specs.Prelude.{Bool, true, false, not, ◌&&◌, ◌||◌, List, ℕ}
use Rattle.formula.specs.Formula.{Term}
use Rattle.lists.specs.Search.{any, all}
use Rattle.contact.specs.Plan.{at, evaluations, may, Mark, touching, apart, vacant, inhabited}

-- one of the two is in the first term, and one in the second
abbrev pub serves_contact : Term ℕ → Term ℕ → ℕ → ℕ → Bool
serves_contact x y e f = ((at x e && at y f) || (at x f && at y e)) || ((at x e && at y e) || (at x f && at y f))

-- one of the two is in the term
abbrev pub serves_zero : Term ℕ → ℕ → ℕ → Bool
serves_zero t e f = at t e || at t f

-- the pair serves the mark's atom
abbrev pub serves : ℕ → ℕ → Mark → Bool
serves e f (touching x y) = serves_contact x y e f
serves e f (apart x y) = serves_contact x y e f
serves e f (vacant t) = serves_zero t e f
serves e f (inhabited t) = serves_zero t e f

-- the mark restricts
abbrev pub restricts : Mark → Bool
restricts (touching x y) = false
restricts (apart x y) = true
restricts (vacant t) = true
restricts (inhabited t) = false

-- no mark takes the pair away
unfoldable pub lives : List Mark → ℕ → ℕ → Bool
lives ms e f = not (any (λ m. restricts m && serves e f m) ms)

-- some pair of evaluations that points may have passes
abbrev pub some_pair : ℕ → (ℕ → ℕ → Bool) → Bool
some_pair names p = any (λ e. may names e && any (λ f. may names f && p e f) (evaluations names)) (evaluations names)

-- some pair that is left serves the mark's atom
unfoldable pub served : ℕ → List Mark → Mark → Bool
served names ms m = some_pair names (λ e f. lives ms e f && serves e f m)

-- some pair is left, and every mark restricts or is served
unfoldable pub pair_check : ℕ → List Mark → Bool
pair_check names ms = some_pair names (lives ms) && all (λ m. restricts m || served names ms m) ms
