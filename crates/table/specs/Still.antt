-- What is computed: what still gives (document 02, T-09), as a function of the list of standing texts and of the words lent beside the table,
-- and its contract. Rows says what is meant; proofs/Claims.antt ties the two. The last definitions are for proofs. Assumes nothing.
use Rattle.std.specs.Prelude.{ℕ, ◌≡◌, Bool, true, false, not, ◌&&◌, cond, List, [], ◌∷◌, leb, length, Option, Some, None}
use Rattle.formula.specs.Formula.{Formula, Name}
use Rattle.contact.specs.Meaning.{meets_all}
use Rattle.contact.specs.Question.{plain}
use Rattle.contact.specs.Numbering.{names_of}
use Rattle.contact.specs.Row.{Row}
use Rattle.contact.specs.Check.{first_row_of}
use Rattle.plan.specs.Words.{Plan, IsPlan}
use Rattle.plan.specs.Wider.{widened}
use Rattle.plan.specs.Reader.{Reading, plan, refused, read_of, ReadingSays}
use Rattle.plan.specs.Judging.{uncovered}
use Rattle.plan.specs.Floor.{named_floor}
use Rattle.plan.proofs.Exact.{exact}
use Rattle.judging.specs.declared.Judged.{Judged}
use Rattle.ruleset.specs.declared.Compiling.{Compiling}
use Rattle.ruleset.specs.Texts.{CompiledRules}
use Rattle.table.specs.declared.Table.{Table}
use Rattle.table.specs.declared.StillAnswer.{StillAnswer}
use Rattle.table.specs.declared.StillResult.{StillResult}
use Rattle.table.specs.Store.{table_of, rules_of}
use Rattle.table.specs.Sheet.{Text}
use Rattle.table.specs.Calls.{formulas_of, FromUs}
use Rattle.table.specs.Steps.{TextsCompiled}

-- "a plan of no more names than the table"; "it then meets the table, with no point at evaluation 0 where the table uses a name"
abbrev pub drawn_plan : List (Formula Name) → (p : Plan) → IsPlan p → Bool
drawn_plan rules p h =
    leb p.names (length (names_of rules)) && (not (uncovered (widened (length (names_of rules)) p)) && meets_all (named_floor rules p h) rules)

-- damaged words are no plan
abbrev pub drawn_reading : List (Formula Name) → (words : List ℕ) → (r : Reading) → ReadingSays words r → Bool
drawn_reading rules words (plan p) h = drawn_plan rules p h.0
drawn_reading rules words (refused j) h = false

unfoldable pub drawn_of : List (Formula Name) → List ℕ → Bool
drawn_of rules words = drawn_reading rules words (read_of words) (exact words)

-- "the answer is "yes" or "no"": by the row that the search finds
abbrev pub row_answer : List Row → StillAnswer
row_answer [] = StillAnswer.No
row_answer (row ∷ rows) = StillAnswer.Yes

-- "the answer is "yes, as drawn", without a search. Otherwise the search runs"
abbrev pub rules_answer : List (Formula Name) → List ℕ → StillAnswer
rules_answer rules words = cond (drawn_of rules words) StillAnswer.AsDrawn (row_answer (first_row_of plain rules))

-- "Refused: 11 only."
unfoldable pub still_answer : List Text → List ℕ → StillAnswer
still_answer [] words = StillAnswer.NoRule
still_answer (s ∷ rs) words = rules_answer (formulas_of (s ∷ rs)) words

unfoldable pub still_given : List Text → List ℕ → StillResult
still_given rs words = record { table = table_of rs; answer = still_answer rs words }

pub record StillDoes (t : Table) (words : List ℕ) (r : StillResult) : Type 0 where
  pub result : r ≡ still_given (rules_of t) words
  pub same : r.table ≡ t
  pub from_us : FromUs r.table

-- ---- for proofs

-- the plan is judged to meet every rule
abbrev pub is_met : Judged → Bool
is_met Judged.Yes = true
is_met (Judged.Unmet k) = false
is_met Judged.Uncovered = false

-- the search's answers, as still's
abbrev pub found_still : Option ℕ → StillAnswer
found_still (Some row) = StillAnswer.Yes
found_still None = StillAnswer.No

-- whether the words are drawn for the rules that are compiled
unfoldable pub DrawnIs : Compiling → List ℕ → List ℕ → Bool → Type 0
DrawnIs c code words r = (rules : List (Formula Name)) (kept : List ℕ) → CompiledRules rules c kept code → r ≡ drawn_of rules words

-- and what still answers by them
unfoldable pub InHandIs : Compiling → List ℕ → List ℕ → StillAnswer → Type 0
InHandIs c code words r = (rules : List (Formula Name)) (kept : List ℕ) → CompiledRules rules c kept code → r ≡ rules_answer rules words

-- the texts are compiled, and still answers by them
pub record TextsInHand (texts : List Text) (words : List ℕ) (r : StillAnswer) : Type 0 where
  pub compiling : Compiling
  pub code : List ℕ
  pub compiled : TextsCompiled texts compiling code
  pub says : InHandIs compiling code words r
