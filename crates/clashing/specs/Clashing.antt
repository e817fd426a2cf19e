-- What is computed: which rules clash, by the first rows of those that are left; proofs/Claims.antt ties it to Clash. Rules and atoms have
-- numbers. Assumes nothing.
use Rattle.std.specs.Prelude.{Bool, true, false, List, [], ◌∷◌, ◌++◌, ℕ, length}
use Rattle.formula.specs.Formula.{Atom, Form, Formula, Name}
use Rattle.contact.specs.Question.{plain}
use Rattle.contact.specs.Numbering.{names_of, numbered_atoms, row_atoms}
use Rattle.contact.specs.Row.{Row}
use Rattle.contact.specs.Check.{first_row}
use Rattle.clashing.specs.Clash.{chosen}

-- a row was found
abbrev pub is_found : List Row → Bool
is_found [] = false
is_found (row ∷ rows) = true

-- which of the rules behind `before` are kept
unfoldable pub clash_from : ℕ → List (Atom ℕ) → List (Form ℕ) → List (Form ℕ) → List Bool
clash_from names atoms before [] = []
clash_from names atoms before (f ∷ nums) =
    let set = clash_from names atoms (before ++ f ∷ []) nums in is_found (first_row plain names atoms (before ++ chosen set nums)) ∷ set

-- of rules as read
abbrev pub clash_of : List (Formula Name) → List Bool
clash_of rules = clash_from (length (names_of rules)) (row_atoms rules) [] (numbered_atoms rules)
