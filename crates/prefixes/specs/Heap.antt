-- What is computed: the rows of all first atoms in one array of bits. The row of no atoms has place 1, and the rows with one atom more than
-- that at place h have the places 2 * h, where it is true, and 2 * h + 1. Assumes nothing.
use Rattle.std.specs.Prelude.{Bool, true, false, ◌≡◌, List, [], ◌∷◌, ℕ, ◌+◌, ◌*◌, ◌≤◌, length}
use Rattle.formula.specs.Formula.{Atom}
use Rattle.contact.specs.Row.{Row}
use Rattle.contact.specs.Plan.{row_marks}
use Rattle.contact.specs.Check.{check}
use Rattle.search.specs.declared.Chart.{Chart}
use Rattle.search.specs.Compiled.{Compiled}
use Rattle.pairing.specs.Listed.{seen_at}

-- the place of the child
abbrev pub child : ℕ → Bool → ℕ
child h true = 2 * h
child h false = 2 * h + 1

-- the place of the row with these atoms more
unfoldable pub place_under : ℕ → Row → ℕ
place_under h [] = h
place_under h (b ∷ row) = place_under (child h b) row

-- the place of a row
abbrev pub place_of : Row → ℕ
place_of row = place_under 1 row

-- the bit of each row of first atoms is its check
unfoldable pub Checks : ℕ → List (Atom ℕ) → List ℕ → Type 0
Checks names atoms bits = (row : Row) → length row ≤ length atoms → seen_at bits (place_of row) ≡ check names (row_marks atoms row)

-- of all atoms that the chart comes from
unfoldable pub ChecksSay : Chart → List ℕ → Type 0
ChecksSay chart bits = (atoms : List (Atom ℕ)) → Compiled chart atoms → Checks chart.names atoms bits
