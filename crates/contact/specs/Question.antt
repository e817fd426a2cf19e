-- What is meant: which floors count for a question. First rows, 'no plan' and the plan that is given are stated for the floors that count, so
-- that the question is one parameter of them all. Assumes nothing.
use Rattle.std.specs.Prelude.{true, ◌≡◌, List, ℕ, ◌<◌}
use Rattle.formula.specs.Formula.{Formula, Name}
use Rattle.lists.specs.Search.{In, any}
use Rattle.contact.specs.Meaning.{Floor, meets_all}
use Rattle.contact.specs.Numbering.{names_of}

-- document 01's question, and document 02's, T-04: "A factory floor must hang together. A new question asks for a plan in which every point can
-- be reached from every other through contacts."
pub data Question : Type 0 where
  plain : Question
  building : Question

module _ {N : Type 0} where
  -- a way from point to point through contacts
  pub data Way (F : Floor N) : ℕ → ℕ → Type 0 where
    stay : {p : ℕ} → Way F p p
    step : {p q r : ℕ} → q < F.points → F.touch p q ≡ true → Way F q r → Way F p r

  -- "every point can be reached from every other through contacts"
  abbrev pub HangsTogether : Floor N → Type 0
  HangsTogether F = (p q : ℕ) → p < F.points → q < F.points → Way F p q

  -- the shape that a question asks of a floor: none, or that it hangs together
  abbrev pub Shaped : Question → Floor N → Type 0
  Shaped plain F = Unit {0}
  Shaped building F = HangsTogether F

  -- document 02's, T-07: "Where a table uses at least one name, each point of a plan must lie in at least one of them; with no names the old
  -- meaning stays."
  abbrev pub Somewhere : List N → Floor N → Type 0
  Somewhere names F = (x : N) → In x names → (p : ℕ) → p < F.points → any (λ y. F.lies y p) names ≡ true

  -- the floors that count, where the rules use these names
  pub record Counts (q : Question) (names : List N) (F : Floor N) : Type 0 where
    pub somewhere : Somewhere names F
    pub shaped : Shaped q F

-- "'No' is said only if no finite floor that hangs together meets the standing rules", and for the plain question if none of any shape does
abbrev pub NoFloor : Question → List (Formula Name) → Type 0
NoFloor q rules = (F : Floor Name) → Counts q (names_of rules) F → meets_all F rules ≡ true → ⊥
