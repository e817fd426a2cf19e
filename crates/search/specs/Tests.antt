-- For proofs: what the private functions on sets compute, with sets as tests on evaluations: f and g or x and y are sets, al the allowed
-- set, sep p what is separated from p. Assumes nothing.
use Rattle.std.specs.Prelude.{Bool, true, false, ◌&&◌, ◌||◌, ◌≡◌, List, [], ◌∷◌, ℕ, ◌<◌}
use Rattle.lists.specs.Search.{any, first, collect, below}
use Rattle.evalset.specs.Sets.{room, none_of, meet_of, minus_of}

-- each of x is separated from each of y, of the evaluations below n
abbrev pub Separates : ℕ → (ℕ → ℕ → Bool) → (ℕ → Bool) → (ℕ → Bool) → (ℕ → ℕ → Bool) → Type 0
Separates n sep x y r = (p q : ℕ) → p < n → q < n → r p q ≡ (sep p q || (x p && y q))

-- one is in the first set and the other in the second, either way round
unfoldable pub crossed : (ℕ → Bool) → (ℕ → Bool) → ℕ → ℕ → Bool
crossed x y p q = (x p && y q) || (y p && x q)

-- what a false contact separates is added, of the evaluations below n, from those in `all`
abbrev pub Parts : ℕ → (ℕ → Bool) → (ℕ → ℕ → Bool) → (ℕ → Bool) → (ℕ → Bool) → (ℕ → ℕ → Bool) → Type 0
Parts n all sep x y r = (p q : ℕ) → all p ≡ true → p < n → q < n → r p q ≡ (sep p q || crossed x y p q)

-- what an atom with its value forbids, and what it separates: whether it is a contact, then its value
abbrev pub less_of : Bool → Bool → (ℕ → Bool) → (ℕ → Bool) → ℕ → Bool
less_of true true x y = none_of
less_of true false x y = meet_of x y
less_of false true x y = x
less_of false false x y = none_of

abbrev pub part_of : Bool → Bool → (ℕ → Bool) → (ℕ → Bool) → ℕ → ℕ → Bool
part_of true true x y p q = false
part_of true false x y p q = crossed x y p q
part_of false v x y p q = false

-- p is in the first set and has an unseparated partner in the second
unfoldable pub starts_of : (ℕ → Bool) → (ℕ → Bool) → (ℕ → ℕ → Bool) → ℕ → Bool
starts_of f g sep p = f p && any (minus_of g (sep p)) (below room)

-- p and its least partner
abbrev pub pair_from : (ℕ → Bool) → (ℕ → ℕ → Bool) → ℕ → List ℕ
pair_from g sep p = p ∷ first (minus_of g (sep p)) (below room)

-- the least p with a partner, and its least partner; the empty list where there is none
unfoldable pub pair_of : (ℕ → Bool) → (ℕ → Bool) → (ℕ → ℕ → Bool) → List ℕ
pair_of f g sep = collect (pair_from g sep) (first (starts_of f g sep) (below room))

-- the evaluations that an atom with its value gives
abbrev pub gives_of : Bool → Bool → (ℕ → Bool) → (ℕ → ℕ → Bool) → (ℕ → Bool) → (ℕ → Bool) → List ℕ
gives_of true true al sep x y = pair_of (meet_of al x) (meet_of al y) sep
gives_of true false al sep x y = []
gives_of false true al sep x y = []
gives_of false false al sep x y = first (meet_of al x) (below room)
