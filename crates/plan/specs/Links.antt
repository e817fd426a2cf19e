-- What is meant: the contacts of two points, from rows of bits. Assumes nothing.
use Rattle.std.specs.Prelude.{Bool, ◌&&◌, cond, List, [], ◌∷◌, ℕ, ◌+◌, ◌*◌, ltb}
use Rattle.lists.specs.Search.{collect, below}

-- the contact of positions i and j, if j is later and in i's row
unfoldable pub pair_of : ℕ → ℕ → (ℕ → Bool) → List ℕ
pair_of i j row = cond (ltb i j && row j) ((i * 256 + j) ∷ []) []

-- the contacts of position i with the later ones below n
unfoldable pub row_to : ℕ → ℕ → (ℕ → Bool) → List ℕ
row_to n i row = collect (λ j. pair_of i j row) (below n)

-- the contacts of the positions below m with the later ones below n
unfoldable pub links_to : ℕ → ℕ → (ℕ → ℕ → Bool) → List ℕ
links_to m n rows = collect (λ i. row_to n i (rows i)) (below m)
