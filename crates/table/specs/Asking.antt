-- What is computed: what ask and judge give, as functions of the list of standing texts and of what is lent beside the table, and their
-- contracts. Rows says what is meant; proofs/Claims.antt ties the two. Assumes nothing.
use Rattle.std.specs.Prelude.{ℕ, ◌≡◌, cond, List, [], ◌∷◌, leb, eqb, length}
use Rattle.lists.specs.Buffer.{over}
use Rattle.formula.specs.Formula.{Formula, Name}
use Rattle.contact.specs.Question.{Question}
use Rattle.contact.specs.Numbering.{names_of}
use Rattle.plan.specs.Words.{Plan, IsPlan, words_of}
use Rattle.plan.specs.Reader.{Reading, plan, refused, read_of, ReadingSays}
use Rattle.plan.specs.Plans.{plans_of}
use Rattle.plan.specs.Judging.{Judgement, yes, unmet, judge, uncovered}
use Rattle.plan.proofs.Exact.{exact}
use Rattle.plan.specs.Floor.{named_floor}
use Rattle.table.specs.declared.Table.{Table}
use Rattle.table.specs.declared.AskAnswer.{AskAnswer}
use Rattle.table.specs.declared.AskResult.{AskResult}
use Rattle.table.specs.declared.JudgeAnswer.{JudgeAnswer}
use Rattle.table.specs.declared.JudgeResult.{JudgeResult}
use Rattle.table.specs.Store.{table_of, rules_of}
use Rattle.table.specs.Sheet.{Text}
use Rattle.table.specs.Calls.{formulas_of, FromUs}

-- ---- ask

-- "Ask answers a plan, with its number of words"; refusal 12: "the plan has more words than the buffer | words needed"
abbrev pub plan_answer : ℕ → ℕ → AskAnswer
plan_answer needed room = cond (leb needed room) (AskAnswer.Plan needed) (AskAnswer.ShortBuffer needed)

-- "or no plan"
abbrev pub found_answer : List Plan → ℕ → AskAnswer
found_answer [] room = AskAnswer.NoPlan
found_answer (p ∷ ps) room = plan_answer (length (words_of p)) room

-- refusal 11: "no rule stands"; the plan is the question's
unfoldable pub ask_answer : Question → List Text → ℕ → AskAnswer
ask_answer q [] room = AskAnswer.NoRule
ask_answer q (s ∷ rs) room = found_answer (plans_of q (formulas_of (s ∷ rs))) room

-- "words past the plan, and all words for no plan, keep their values", and so do all words for a refusal
abbrev pub found_words : List Plan → List ℕ → List ℕ
found_words [] buffer = buffer
found_words (p ∷ ps) buffer = cond (leb (length (words_of p)) (length buffer)) (over (words_of p) buffer) buffer

unfoldable pub ask_words : Question → List Text → List ℕ → List ℕ
ask_words q [] buffer = buffer
ask_words q (s ∷ rs) buffer = found_words (plans_of q (formulas_of (s ∷ rs))) buffer

unfoldable pub asked : Question → List Text → List ℕ → AskResult
asked q rs buffer = record { table = table_of rs; answer = ask_answer q rs (length buffer) }

-- the result, and each word of the buffer
pub record Asks (q : Question) (t : Table) (buffer : List ℕ) (r : AskResult) (exit : List ℕ) : Type 0 where
  pub result : r ≡ asked q (rules_of t) buffer
  pub words : exit ≡ ask_words q (rules_of t) buffer
  pub same : r.table ≡ t
  pub from_us : FromUs r.table

-- ---- judge

-- "Judge answers yes or the lowest unmet rule, from 1"
abbrev pub judgement_answer : Judgement → JudgeAnswer
judgement_answer yes = JudgeAnswer.Yes
judgement_answer (unmet k) = JudgeAnswer.Unmet k

-- a plan, as a floor over the rules' names in their numbering; document 02, T-07: "judging a plan of one name or more with a point at
-- evaluation 0 answers 0, after the refusals and ahead of any rule"
abbrev pub judge_decoded : List (Formula Name) → (p : Plan) → IsPlan p → JudgeAnswer
judge_decoded rules p h = cond (uncovered p) JudgeAnswer.Uncovered (judgement_answer (judge (named_floor rules p h) rules))

-- refusal 14: "names differ in number | plan's names"
abbrev pub judge_plan : List (Formula Name) → (p : Plan) → IsPlan p → JudgeAnswer
judge_plan rules p h = cond (eqb p.names (length (names_of rules))) (judge_decoded rules p h) (JudgeAnswer.NamesDiffer p.names)

-- refusal 13: "words up to here begin no plan, or end early | word index, or the length"; what is read is a plan (`exact`)
abbrev pub judge_reading : List (Formula Name) → (words : List ℕ) → (r : Reading) → ReadingSays words r → JudgeAnswer
judge_reading rules words (plan p) h = judge_plan rules p h.0
judge_reading rules words (refused j) h = JudgeAnswer.NotAPlan j

-- refusal 11: "no rule stands"
unfoldable pub judge_answer : List Text → List ℕ → JudgeAnswer
judge_answer [] words = JudgeAnswer.NoRule
judge_answer (s ∷ rs) words = judge_reading (formulas_of (s ∷ rs)) words (read_of words) (exact words)

unfoldable pub judged : List Text → List ℕ → JudgeResult
judged rs words = record { table = table_of rs; answer = judge_answer rs words }

pub record Judges (t : Table) (words : List ℕ) (r : JudgeResult) : Type 0 where
  pub result : r ≡ judged (rules_of t) words
  pub same : r.table ≡ t
  pub from_us : FromUs r.table
