-- What is meant: document 02, T-10: two lists of the same rules, added to empty tables by calls of the code, or two sheets of the same lines,
-- loaded by them, and the answers of ask then. The calls come in by their contracts, as in Demands. Assumes nothing.
use Rattle.std.specs.Prelude.{ℕ, ◌≤◌, ◌≡◌, ◌↔◌, List, [], ◌∷◌, ◌++◌, length}
use Rattle.formula.specs.Formula.{Formula, Name}
use Rattle.lists.specs.Often.{EquallyOften}
use Rattle.contact.specs.Question.{Question}
use Rattle.plan.specs.Words.{Plan, words_of}
use Rattle.plan.specs.Meant.{IsGiven}
use Rattle.table.specs.declared.Table.{Table}
use Rattle.table.specs.declared.Outcome.{Outcome}
use Rattle.table.specs.declared.AddResult.{AddResult}
use Rattle.table.specs.declared.LoadResult.{LoadResult}
use Rattle.table.specs.declared.AskResult.{AskResult}
use Rattle.table.specs.Store.{table_of}
use Rattle.table.specs.Sheet.{Text, lines_of, filled}
use Rattle.table.specs.Rules.{AreRules}
use Rattle.table.specs.Calls.{Adds, Loads}
use Rattle.table.specs.Asking.{Asks}
use Rattle.table.specs.Numbers.{add_outcome, load_outcome, ask_outcome}
use Rattle.table.specs.Rows.{SomeStand}
use Rattle.table.specs.Stands.{Call, adds}
use Rattle.theorems.specs.Demands.{Leaves, words_enough}

-- "two lists of the same rules, at least one rule and each equally often": a rule is its text as it came, and the texts may be any
pub record SameRules (rs ss : List Text) : Type 0 where
  pub some : SomeStand rs
  pub often : EquallyOften rs ss

-- "an empty table accepts all" of a list: each is added after those before it, and none of these adds is refused
abbrev pub AcceptsAll : List Text → Type 0
AcceptsAll rs =
    (before : List Text) (s : Text) (later : List Text) → rs ≡ before ++ s ∷ later
    → (t : Table) → Leaves (adds before) t → (r : AddResult) → Adds t s r → add_outcome r.answer ≡ Outcome.Done

-- "buffers that are long enough": for the plan that is given of the rules, where there is one
abbrev pub LongEnough : Question → List Text → List ℕ → Type 0
LongEnough q rs buffer = (fs : List (Formula Name)) → AreRules rs fs → (p : Plan) → IsGiven q fs p → length (words_of p) ≤ length buffer

-- "Both answers are then plan, or both no plan"; "The plans may differ, since names are numbered by place.", and so may their lengths
pub data BothSay : Outcome → Outcome → Type 0 where
  plan : {m n : ℕ} → BothSay (Outcome.Plan m) (Outcome.Plan n)
  no_plan : BothSay Outcome.NoPlan Outcome.NoPlan

-- ask on the tables that these calls leave, in which rs and ss stand
pub record AnswersAlike (rs ss : List Text) (cs ds : List Call) : Type 0 where
  -- "for the plain question and for the one-building question, given buffers that are long enough"
  pub said : (q : Question) (t u : Table) → Leaves cs t → Leaves ds u → (lent other : List ℕ) → LongEnough q rs lent → LongEnough q ss other
      → (x : AskResult) (exit : List ℕ) → Asks q t lent x exit → (y : AskResult) (words : List ℕ) → Asks q u other y words
      → BothSay (ask_outcome x.answer) (ask_outcome y.answer)
  -- those of 530 and of 32,642 words are
  pub enough : (q : Question) (buffer : List ℕ) → words_enough q ≤ length buffer → LongEnough q rs buffer × LongEnough q ss buffer

-- what is so for lists of the same rules
pub record InAnyOrder (rs ss : List Text) : Type 0 where
  -- "an empty table accepts all of one exactly if it accepts all of the other"
  pub accepted : AcceptsAll rs ↔ AcceptsAll ss
  pub answered : AcceptsAll rs → AnswersAlike rs ss (adds rs) (adds ss)

-- ---- sheets: beyond T-10's words, the same for load

-- two sheets of the same lines that are not blank, at least one and each equally often, neither or both of more than 8,192 bytes. Such are two
-- of which one has the lines of the other in another order, if not all are blank: they have as many bytes
pub record SameLines (f g : Text) : Type 0 where
  pub lines : SameRules (filled (lines_of f)) (filled (lines_of g))
  pub within : (length f ≤ 8192) ↔ (length g ≤ 8192)

-- an empty table takes the sheet: load is not refused
abbrev pub LoadsAll : Text → Type 0
LoadsAll f = (r : LoadResult) → Loads (table_of []) f r → load_outcome r.answer ≡ Outcome.Done

-- what is so for sheets of the same lines
pub record LinesInAnyOrder (f g : Text) : Type 0 where
  pub loaded : LoadsAll f ↔ LoadsAll g
  pub answered : LoadsAll f → AnswersAlike (filled (lines_of f)) (filled (lines_of g)) (Call.load f ∷ []) (Call.load g ∷ [])
