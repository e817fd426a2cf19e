-- What is computed: the words of the plan with a first word and n points, on the first evaluations, each in contact with each
-- (document 01, 'Plan words'). Assumes nothing.
use Rattle.std.specs.Prelude.{List, [], ◌∷◌, ◌++◌, ℕ, ◌+◌, ◌-◌, ◌*◌, length}
use Rattle.lists.specs.Search.{collect, from, below}

-- the contacts of position i with all later ones
abbrev pub contacts_of : ℕ → ℕ → List ℕ
contacts_of n i = from (0x30000001 + i * 257) (n - (i + 1))

-- the words before the last one
unfoldable pub every_before : ℕ → ℕ → List ℕ
every_before first n = (first ∷ from 0x20000000 n) ++ collect (contacts_of n) (below n)

unfoldable pub every_plan : ℕ → ℕ → List ℕ
every_plan first n = every_before first n ++ (0x40000000 + length (every_before first n)) ∷ []
