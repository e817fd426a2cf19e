-- What is meant: document 01, 'Worked sheets': the rows P1 to P12 as that paper has them, P9 as document 02 has it, and what a row says of the calls of the code, which
-- come in by their contracts as in Demands. Assumes nothing.
use Rattle.std.specs.Prelude.{◌≡◌, List, [], ◌∷◌, ◌++◌, ℕ, ◌≤◌, ◌<◌, length}
use Rattle.lists.specs.Buffer.{over}
use Rattle.lexer.specs.Text.{bytes}
use Rattle.table.specs.Sheet.{Text}
use Rattle.table.specs.Stands.{Call, withdraw, adds, Stands}
use Rattle.contact.specs.Question.{plain}
use Rattle.table.specs.Asking.{Asks}
use Rattle.table.specs.declared.Table.{Table}
use Rattle.table.specs.declared.AskResult.{AskResult}
use Rattle.table.specs.declared.Outcome.{Outcome}
use Rattle.table.specs.Numbers.{ask_outcome}
use Rattle.theorems.specs.Demands.{Leaves}

-- ---- the rows

-- a row's answer: a plan, by its words, or no plan
pub data Answer : Type 0 where
  words : List ℕ → Answer
  no_plan_said : Answer

-- a row: calls, the first on the empty table, the rules that are to stand after them, and the answer
pub record WorkedSheet : Type 0 where
  pub calls : List Call
  pub rules : List Text
  pub answer : Answer

-- "/" parts rules: each is added, in order
abbrev pub sheet : List Text → Answer → WorkedSheet
sheet rules answer = record { calls = adds rules; rules = rules; answer = answer }

abbrev pub P1 : WorkedSheet
P1 = sheet (bytes "T" ∷ []) (words (0x10000001 ∷ 0x20000000 ∷ 0x40000002 ∷ []))

abbrev pub P2 : WorkedSheet
P2 = sheet (bytes "C(raw,cooked)" ∷ []) (words (0x10000202 ∷ 0x20000001 ∷ 0x20000002 ∷ 0x30000001 ∷ 0x40000004 ∷ []))

abbrev pub P3 : WorkedSheet
P3 = sheet (bytes "~C(raw,cooked)" ∷ bytes "~raw=0" ∷ bytes "~cooked=0" ∷ []) (words (0x10000202 ∷ 0x20000001 ∷ 0x20000002 ∷ 0x40000003 ∷ []))

-- "P3 / <=(raw,cooked)"
abbrev pub P4 : WorkedSheet
P4 = sheet (P3.rules ++ bytes "<=(raw,cooked)" ∷ []) no_plan_said

-- "P4, then rule 4 withdrawn": "as P3"
abbrev pub P5 : WorkedSheet
P5 = record { calls = P4.calls ++ withdraw 4 ∷ []; rules = P3.rules; answer = P3.answer }

abbrev pub P6 : WorkedSheet
P6 = sheet (bytes "C(a,a) & a=0" ∷ []) no_plan_said

abbrev pub P7 : WorkedSheet
P7 = sheet (bytes "1=0" ∷ []) no_plan_said

-- "as P1"
abbrev pub P8 : WorkedSheet
P8 = sheet (bytes "C(1,1)" ∷ []) P1.answer

-- document 02, T-07: "Sheet P9 now gives 10000101 20000001 40000002."
abbrev pub P9 : WorkedSheet
P9 = sheet (bytes "a=0 | ~a=0" ∷ []) (words (0x10000101 ∷ 0x20000001 ∷ 0x40000002 ∷ []))

abbrev pub P10 : WorkedSheet
P10 = sheet (bytes "~(C(a,b) <-> C(b,a))" ∷ []) no_plan_said

abbrev pub P11 : WorkedSheet
P11 = sheet (bytes "F -> F -> F" ∷ []) no_plan_said

-- "as P1"
abbrev pub P12 : WorkedSheet
P12 = sheet (bytes "T | F & F" ∷ []) P1.answer

abbrev pub worked_sheets : List WorkedSheet
worked_sheets = P1 ∷ P2 ∷ P3 ∷ P4 ∷ P5 ∷ P6 ∷ P7 ∷ P8 ∷ P9 ∷ P10 ∷ P11 ∷ P12 ∷ []

-- ---- what a row says

-- ask, on the table t and lent this buffer, has this outcome and leaves these words in the buffer
abbrev pub Gives : Table → List ℕ → Outcome → List ℕ → Type 0
Gives t buffer o ws = (r : AskResult) (exit : List ℕ) → Asks plain t buffer r exit → (ask_outcome r.answer ≡ o) × (exit ≡ ws)

-- "Ask answers a plan, with its number of words, or no plan; words past the plan, and all words for no plan, keep their values";
-- refusal 12: "the plan has more words than the buffer | words needed", so "P3 with 3 words of buffer gives 12, needed 4"
abbrev pub AskedFor : Answer → List ℕ → (Outcome → List ℕ → Type 0) → Type 0
AskedFor (words ws) buffer gives =
    (length ws ≤ length buffer → gives (Outcome.Plan (length ws)) (over ws buffer))
    × (length buffer < length ws → gives (Outcome.Refused 12 (length ws)) buffer)
AskedFor no_plan_said buffer gives = gives Outcome.NoPlan buffer

-- the row holds
pub record Holds (row : WorkedSheet) : Type 0 where
  -- the rules that stand after the calls are the row's
  pub stand : Stands row.calls row.rules
  -- ask on the table that the calls leave gives the row's answer, whatever buffer is lent
  pub answered : (t : Table) → Leaves row.calls t → (buffer : List ℕ) → AskedFor row.answer buffer (Gives t buffer)
