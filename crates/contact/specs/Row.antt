-- What is meant: rows of values for the atoms and which of them a floor that counts realises (document 01, 'The plan that is given'); partial
-- rows, and which floor "gives the decided atoms their values" (document 02, T-06, kind 7). Assumes nothing.
use Rattle.std.specs.Prelude.{Bool, true, false, ◌≡◌, List, [], ◌∷◌, map, ℕ, get_or}
use Rattle.formula.specs.Formula.{Atom, Form, Formula, Name}
use Rattle.lists.specs.Search.{all}
use Rattle.contact.specs.Meaning.{Floor, atom_on, value}
use Rattle.contact.specs.Question.{Question, Counts}
use Rattle.contact.specs.Numbering.{names_of, different_atoms, numbered_atoms}

-- "A row gives each atom true or false."
abbrev pub Row : Type 0
Row = List Bool

-- "It is realisable if some plan gives all atoms those values." The floor gives the atoms this row.
abbrev pub Realises : {N : Type 0} → Floor N → List (Atom N) → Row → Type 0
Realises F atoms row = map (atom_on F) atoms ≡ row

-- some floor that counts gives the atoms these values; the names are those that the rules use
abbrev pub Realisable : {N : Type 0} → Question → List N → List (Atom N) → Row → Type 0
Realisable {N} q names atoms row = ∥ ((F : Floor N) × Counts q names F × Realises F atoms row) ∥₁

-- a row makes all rules true; they have numbers for atoms
unfoldable pub rules_true : List (Form ℕ) → Row → Bool
rules_true rules row = all (value (λ i. get_or row i false)) rules

-- "of two rows the first is the one with true at the lowest atom where they differ"
abbrev pub Before : Row → Row → Type 0
Before [] s = ⊥
Before (b ∷ r) [] = ⊥
Before (true ∷ r) (true ∷ s) = Before r s
Before (true ∷ r) (false ∷ s) = Unit {0}
Before (false ∷ r) (true ∷ s) = ⊥
Before (false ∷ r) (false ∷ s) = Before r s

-- "The answer uses the first realisable row that makes all rules true."; of one building, "Its row is the first that some such plan realises
-- with all rules true."; "Rows run over the different atoms, numbered by first place."
pub record IsFirstRow (q : Question) (rules : List (Formula Name)) (row : Row) : Type 0 where
  pub realisable : Realisable q (names_of rules) (different_atoms rules) row
  pub makes : rules_true (numbered_atoms rules) row ≡ true
  pub earliest : (other : Row) → Realisable q (names_of rules) (different_atoms rules) other → rules_true (numbered_atoms rules) other ≡ true → Before other row
      → ⊥

-- ---- partial rows: "undecided atoms read as unknown"

-- true, false, or not decided
pub data Three : Type 0 where
  is : Bool → Three
  unknown : Three

-- a partial row leaves any atoms undecided
abbrev pub PartialRow : Type 0
PartialRow = List Three

-- the values that a partial row decides are those of the row
abbrev pub Extends : Row → PartialRow → Type 0
Extends row [] = Unit {0}
Extends [] (unknown ∷ p) = Extends [] p
Extends [] (is b ∷ p) = ⊥
Extends (c ∷ row) (unknown ∷ p) = Extends row p
Extends (c ∷ row) (is b ∷ p) = (c ≡ b) × Extends row p

-- the floor "gives the decided atoms their values"
abbrev pub RealisesPart : {N : Type 0} → Floor N → List (Atom N) → PartialRow → Type 0
RealisesPart F atoms part = Extends (map (atom_on F) atoms) part
