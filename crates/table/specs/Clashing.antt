-- What is computed: what clash gives, as a function of the list of standing texts and of the places lent beside the table, and its contract. Rows
-- says what is meant; proofs/Claims.antt ties the two. The last definition is for proofs. Assumes nothing.
use Rattle.std.specs.Prelude.{ℕ, ◌≡◌, Bool, cond, List, [], ◌∷◌, ◌++◌, leb, length, drop, Result, Ok, Err}
use Rattle.contact.specs.Question.{plain}
use Rattle.contact.specs.Row.{Row}
use Rattle.contact.specs.Check.{first_row_of}
use Rattle.clashing.specs.declared.NoClash.{NoClash}
use Rattle.clashing.specs.Clashing.{clash_of}
use Rattle.clashing.specs.Steps.{ClashIs}
use Rattle.ruleset.specs.declared.Compiling.{Compiling}
use Rattle.table.specs.declared.Table.{Table}
use Rattle.table.specs.declared.ClashAnswer.{ClashAnswer}
use Rattle.table.specs.declared.ClashResult.{ClashResult}
use Rattle.table.specs.Store.{table_of, rules_of}
use Rattle.table.specs.Sheet.{Text}
use Rattle.table.specs.Calls.{formulas_of, FromUs}
use Rattle.table.specs.Steps.{TextsCompiled}

-- a set of n rules: the places needed, or how many are written
abbrev pub places_answer : ℕ → ℕ → ClashAnswer
places_answer n room = cond (leb n room) (ClashAnswer.Clash n) (ClashAnswer.ShortBuffer n)

-- by the row that the search finds: a plan exists, or none
abbrev pub rows_answer : List Row → ℕ → ℕ → ClashAnswer
rows_answer [] n room = places_answer n room
rows_answer (row ∷ rows) n room = ClashAnswer.HasPlan

unfoldable pub clash_answer : List Text → ℕ → ClashAnswer
clash_answer [] room = ClashAnswer.NoRule
clash_answer (s ∷ rs) room = rows_answer (first_row_of plain (formulas_of (s ∷ rs))) (length (clash_of (formulas_of (s ∷ rs)))) room

-- the set over the first places; what lies past it is kept, and all of it for another answer
abbrev pub rows_places : List Row → List Bool → List Bool → List Bool
rows_places [] set places = cond (leb (length set) (length places)) (set ++ drop (length set) places) places
rows_places (row ∷ rows) set places = places

unfoldable pub clash_places : List Text → List Bool → List Bool
clash_places [] places = places
clash_places (s ∷ rs) places = rows_places (first_row_of plain (formulas_of (s ∷ rs))) (clash_of (formulas_of (s ∷ rs))) places

unfoldable pub clash_given : List Text → List Bool → ClashResult
clash_given rs places = record { table = table_of rs; answer = clash_answer rs (length places) }

-- the result, and each place
pub record GivesClash (t : Table) (places : List Bool) (r : ClashResult) (exit : List Bool) : Type 0 where
  pub result : r ≡ clash_given (rules_of t) places
  pub written : exit ≡ clash_places (rules_of t) places
  pub same : r.table ≡ t
  pub from_us : FromUs r.table

-- ---- for proofs

-- what is found of the compiled rules, as clash's answer
abbrev pub clashed_answer : Result ℕ NoClash → ClashAnswer
clashed_answer (Ok n) = ClashAnswer.Clash n
clashed_answer (Err NoClash.PlanExists) = ClashAnswer.HasPlan
clashed_answer (Err (NoClash.Short n)) = ClashAnswer.ShortBuffer n

-- the texts are compiled, and clash answers by them
pub record TextsClash (texts : List Text) (places exit : List Bool) (r : Result ℕ NoClash) : Type 0 where
  pub compiling : Compiling
  pub code : List ℕ
  pub compiled : TextsCompiled texts compiling code
  pub says : ClashIs compiling code places exit r
