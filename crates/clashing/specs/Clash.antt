-- What is meant: which rules clash. Of rules that no floor that counts meets, those that are kept when each that is not needed is left out, from
-- the last to the first. Taking a rule away must not change which floors count: they are those that count for all the rules, by the names
-- that these use. `chosen` is computed too. Assumes nothing.
use Rattle.std.specs.Prelude.{Bool, true, false, ◌≡◌, List, [], ◌∷◌, ◌++◌}
use Rattle.formula.specs.Formula.{Formula, Name}
use Rattle.contact.specs.Meaning.{Floor, meets_all}
use Rattle.contact.specs.Question.{plain, Counts, NoFloor}
use Rattle.contact.specs.Numbering.{names_of}

-- a set of rules has a truth value for each place in their list; the rules of the set
module _ {A : Type 0} where
  abbrev pub chosen : List Bool → List A → List A
  chosen [] rules = []
  chosen (b ∷ set) [] = []
  chosen (true ∷ set) (f ∷ rules) = f ∷ chosen set rules
  chosen (false ∷ set) (f ∷ rules) = chosen set rules

-- no floor that counts where these names are used meets the rules
abbrev pub NoneMeets : List Name → List (Formula Name) → Type 0
NoneMeets names rules = (F : Floor Name) → Counts plain names F → meets_all F rules ≡ true → ⊥

-- some such floor does
abbrev pub SomeMeets : List Name → List (Formula Name) → Type 0
SomeMeets names rules = ∥ ((F : Floor Name) × Counts plain names F × (meets_all F rules ≡ true)) ∥₁

-- which of the rules behind `before` are kept: "go through the rules from the last to the first and leave each out that is not needed by those
-- before it and those kept"
pub data Kept (names : List Name) : List (Formula Name) → List (Formula Name) → List Bool → Type 0 where
  none : {before : List (Formula Name)} → Kept names before [] []
  needed : {before rules : List (Formula Name)} {f : Formula Name} {set : List Bool} → Kept names (before ++ f ∷ []) rules set
      → SomeMeets names (before ++ chosen set rules) → Kept names before (f ∷ rules) (true ∷ set)
  left_out : {before rules : List (Formula Name)} {f : Formula Name} {set : List Bool} → Kept names (before ++ f ∷ []) rules set
      → NoneMeets names (before ++ chosen set rules) → Kept names before (f ∷ rules) (false ∷ set)

-- the rules of the set clash: "of a table without a plan, a set of its rules that no floor meets and of which each is needed"
pub record IsClash (rules : List (Formula Name)) (set : List Bool) : Type 0 where
  pub no_plan : NoFloor plain rules
  pub kept : Kept (names_of rules) [] rules set
