-- For proofs: what the private functions do: what is known of standing texts, a text put to them, the rules of a table compiled, the plan
-- of a row written, and the answers of the judge of plans as those of judge. Assumes nothing.
use Rattle.std.specs.Prelude.{ℕ, ◌≤◌, ◌<◌, ◌≡◌, List, [], ◌∷◌, ◌++◌, length, Option, MatchOption, Result}
use Rattle.formula.specs.Formula.{Formula, Name}
use Rattle.contact.specs.Question.{Question}
use Rattle.contact.specs.Numbering.{different_atoms}
use Rattle.ruleset.specs.declared.Known.{Known}
use Rattle.ruleset.specs.declared.NoRoom.{NoRoom}
use Rattle.ruleset.specs.declared.Compiling.{Compiling}
use Rattle.ruleset.specs.declared.AtomPlace.{AtomPlace}
use Rattle.ruleset.specs.Places.{Writing}
use Rattle.ruleset.specs.Texts.{KnownRules, CompiledRules, CompiledTexts, FirstRowIs, ExplainedIs, VerdictIs}
use Rattle.search.specs.Rows.{row_bits}
use Rattle.lists.specs.declared.ShortBuffer.{ShortBuffer}
use Rattle.plan.specs.Arrays.{Writes}
use Rattle.plan.specs.Plans.{row_plan}
use Rattle.plan.specs.declared.PlanArrays.{PlanArrays}
use Rattle.plan.specs.Words.{Plan, IsPlan}
use Rattle.plan.specs.Stored.{Stored}
use Rattle.explaining.specs.declared.NoTree.{NoTree}
use Rattle.trees.specs.declared.NotClosed.{NotClosed}
use Rattle.judging.specs.declared.Judged.{Judged}
use Rattle.table.specs.declared.JudgeAnswer.{JudgeAnswer}
use Rattle.table.specs.declared.Table.{Table}
use Rattle.table.specs.declared.AddAnswer.{AddAnswer}
use Rattle.table.specs.declared.LoadAnswer.{LoadAnswer}
use Rattle.table.specs.declared.LoadResult.{LoadResult}
use Rattle.table.specs.declared.Searched.{Searched}
use Rattle.table.specs.Sheet.{Text}
use Rattle.table.specs.Calls.{formulas_of, judge_add}
use Rattle.table.specs.Rules.{CanStand}
use Rattle.table.specs.Asking.{judge_plan}

-- "Rules, names and atoms are counted in this list": what is known of texts
abbrev pub KnownTexts : List Text → Known → List ℕ → Type 0
KnownTexts rs k kept = KnownRules (formulas_of rs) k kept

-- it is known of texts that can stand
pub record Knowing (k : Known) (kept : List ℕ) : Type 0 where
  pub rules : List Text
  pub standing : CanStand rules
  pub known : KnownTexts rules k kept

-- why there is no room, as add's answer
abbrev pub no_room : NoRoom → AddAnswer
no_room (NoRoom.TooManyNames p) = AddAnswer.TooManyNames p
no_room NoRoom.TooManyAtoms = AddAnswer.TooManyAtoms

-- whatever texts are known, the text is judged where they stand, and known with them if it is added
unfoldable pub Tries : Known → Text → List ℕ → AddAnswer → Known → List ℕ → Type 0
Tries k s kept answer out keptOut =
    (rs : List Text) → CanStand rs → KnownTexts rs k kept
    → (answer ≡ judge_add rs s) × (answer ≡ AddAnswer.Added → KnownTexts (rs ++ s ∷ []) out keptOut)

-- the texts are compiled, their symbols kept somewhere
pub record TextsCompiled (texts : List Text) (c : Compiling) (code : List ℕ) : Type 0 where
  pub kept : List ℕ
  pub compiled : CompiledTexts texts c kept code

-- and their first row is found, for the question
pub record TextsSearched (q : Question) (texts : List Text) (r : Searched) : Type 0 where
  pub code : List ℕ
  pub compiled : TextsCompiled texts r.compiled code
  pub first : FirstRowIs q r.compiled code r.found

-- what is written over the buffer is the plan of a row of the rules that are compiled
unfoldable pub PlanPut : Question → Compiling → ℕ → List ℕ → Result ℕ ShortBuffer → List ℕ → Type 0
PlanPut q c row buffer r exit =
    (rules : List (Formula Name)) (kept code : List ℕ) → CompiledRules rules c kept code
    → Writes (row_plan q rules (row_bits c.known.atoms.chart.atoms row)) buffer r exit

-- what judge answers by them for the plan that arrays hold
unfoldable pub JudgementIs : Compiling → List ℕ → PlanArrays → JudgeAnswer → Type 0
JudgementIs c code arrays r =
    (rules : List (Formula Name)) (kept : List ℕ) → CompiledRules rules c kept code → (p : Plan) (h : IsPlan p) → Stored arrays p → r ≡ judge_plan rules p h

-- the texts are compiled, and a plan is judged by them
pub record TextsJudged (texts : List Text) (arrays : PlanArrays) (r : JudgeAnswer) : Type 0 where
  pub compiling : Compiling
  pub code : List ℕ
  pub compiled : TextsCompiled texts compiling code
  pub says : JudgementIs compiling code arrays r

-- or the writer puts their tree into a buffer
pub record TextsTold (texts : List Text) (before after : List ℕ) (r : Result ℕ NoTree) : Type 0 where
  pub compiling : Compiling
  pub code : List ℕ
  pub compiled : TextsCompiled texts compiling code
  pub told : ExplainedIs compiling code before after r

-- or the checker judges words by them
pub record TextsChecked (texts : List Text) (words : List ℕ) (r : Result Unit NotClosed) : Type 0 where
  pub compiling : Compiling
  pub code : List ℕ
  pub compiled : TextsCompiled texts compiling code
  pub verdict : VerdictIs compiling code words r

-- the different atom with this number is written first at the place; where there is no place, there is no such atom
abbrev pub FirstPlace : List (Formula Name) → ℕ → Option AtomPlace → Type 0
FirstPlace rules which p = MatchOption p (length (different_atoms rules) ≤ which) (λ q. (which < length (different_atoms rules)) × Writing rules which q)

unfoldable pub PlaceIs : Compiling → List ℕ → ℕ → Option AtomPlace → Type 0
PlaceIs c code which p = (rules : List (Formula Name)) (kept : List ℕ) → CompiledRules rules c kept code → FirstPlace rules which p

abbrev pub load_result : Table → LoadAnswer → LoadResult
load_result t a = record { table = t; answer = a }

-- the answers of the judge of plans, as judge's
abbrev pub judged_answer : Judged → JudgeAnswer
judged_answer Judged.Yes = JudgeAnswer.Yes
judged_answer (Judged.Unmet k) = JudgeAnswer.Unmet k
judged_answer Judged.Uncovered = JudgeAnswer.Uncovered
