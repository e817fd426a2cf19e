-- What is proved of the table, for whoever builds on it: it is that of the standing rules whatever calls were made, these are made by the
-- rows of the table of calls, and each call is answered by the first row of the table of calls that applies. Each claim cites the file
-- that proves it. Assumes nothing.
use Prim.Native.Nat.{ℕ, ◌≤◌, ◌<◌}
use mathlib.Core.Bool.{Bool}
use mathlib.Core.Path.{◌≡◌, sym, ◌∙◌}
use mathlib.Core.Logic.{◌↔◌}
use mathlib.Core.List.{List, [], ◌∷◌, ◌++◌}
use lib.ListN.{length}
use Rattle.table.specs.declared.Table.{Table}
use Rattle.table.specs.declared.AddAnswer.{AddAnswer}
use Rattle.table.specs.declared.AddResult.{AddResult}
use Rattle.table.specs.declared.WithdrawResult.{WithdrawResult}
use Rattle.table.specs.declared.LoadAnswer.TheVariants as LoadAnswer
use Rattle.table.specs.declared.LoadResult.{LoadResult}
use Rattle.table.specs.declared.AskResult.{AskResult}
use Rattle.table.specs.declared.JudgeResult.{JudgeResult}
use Rattle.table.specs.declared.PrintResult.{PrintResult}
use Rattle.table.specs.Printing.{print_answer, Prints}
use Rattle.table.specs.declared.ExplainResult.{ExplainResult}
use Rattle.table.specs.declared.CheckResult.{CheckResult}
use Rattle.table.specs.Explaining.{explain_answer, Explains, check_answer, Checks}
use Rattle.table.specs.declared.StillResult.{StillResult}
use Rattle.table.specs.declared.ClashResult.{ClashResult}
use Rattle.table.specs.Clashing.{clash_answer, GivesClash}
use Rattle.table.specs.Still.{still_answer, StillDoes}
use Rattle.table.specs.Store.{table_of, rules_of}
use Rattle.table.specs.Sheet.{Text}
use Rattle.table.specs.Calls.{formulas_of, judge_add, judge_withdraw, judge_load, FromUs, Adds, Withdraws, Loads}
use Rattle.table.specs.Rules.{AreRules, CanStand}
use Rattle.table.specs.AtomText.{atom_text_of}
use Rattle.contact.specs.Question.{Question, NoFloor}
use Rattle.lists.specs.Often.{EquallyOften}
use Rattle.lists.proofs.Often.{often_back}
use Rattle.table.specs.Asking.{ask_answer, Asks, judge_answer, Judges}
use Rattle.formula.specs.Formula.{Formula, Name}
use Rattle.lexer.specs.Arrays.{lexed}
use Rattle.syntax.specs.Rule.{rule_of}
use Rattle.plan.specs.declared.NotAPlan.{NotAPlan}
use Rattle.plan.specs.declared.PlanArrays.{PlanArrays}
use Rattle.plan.specs.Words.{Refusal, Plan, words_of}
use Rattle.plan.specs.Arrays.{Reads, Writes}
use Rattle.std.specs.Prelude.{Result}
use Rattle.lists.specs.declared.ShortBuffer.{ShortBuffer}
use Rattle.printing.specs.Prints.{Prints as PrintsText}
use Rattle.table.specs.declared.Outcome.{Outcome}
use Rattle.table.specs.Numbers.{add_outcome, withdraw_outcome, load_outcome, ask_outcome, judge_outcome, print_outcome, explain_outcome, check_outcome, still_outcome, clash_outcome, lex_outcome, rule_outcome, plan_outcome, written_outcome, printed_outcome}
use Rattle.table.specs.Rows.{AddRow, WithdrawRow, LoadRow, AskRow, JudgeRow, PrintRow, ExplainRow, CheckRow, StillRow, ClashRow}
use Rattle.table.specs.Stands.{Call, add, withdraw, load, ask, judge, print, explain, check, still, clash, adds, Stands}
use Rattle.table.specs.Runs.{step, run, after, standing, Faithful}
use Rattle.table.proofs.Stored as Stored
use Rattle.table.proofs.Rules as Rules
use Rattle.table.proofs.Standing as Standing
use Rattle.table.proofs.Order as Order
use Rattle.table.proofs.Running as Running
use Rattle.table.proofs.Rows as Rows
use Rattle.table.proofs.LoadRows as LoadRows
use Rattle.table.proofs.AskRows as AskRows
use Rattle.table.proofs.PrintRows as PrintRows
use Rattle.table.proofs.TreeRows as TreeRows
use Rattle.table.proofs.StillRows as StillRows
use Rattle.table.proofs.ClashRows as ClashRows
use Rattle.table.proofs.Atoms as Atoms
use Rattle.table.proofs.Stands as Stands
use Rattle.table.proofs.Parts as Parts

-- ---- tables and lists

-- a table gives back the list that it was made of, of any length
pub rules_back : (rs : List Text) → rules_of (table_of rs) ≡ rs
rules_back = Stored.rules_table

-- the table of a list that can stand may be passed to every call
pub may_stand : (rs : List Text) → CanStand rs → FromUs (table_of rs)
may_stand = Stored.from_us_table

-- where rs can stand, a text is added exactly if it can stand behind them
pub added_exactly : (rs : List Text) (s : Text) → CanStand rs → (judge_add rs s ≡ AddAnswer.Added) ↔ CanStand (rs ++ s ∷ [])
added_exactly rs s h = (Standing.stand_more rs s h, Standing.stand_added rs s)

-- texts that can stand can stand in any order: document 02, T-10
pub stand_order : (rs ss : List Text) → EquallyOften rs ss → CanStand rs ↔ CanStand ss
stand_order rs ss often = (Order.stand_order rs ss often, Order.stand_order ss rs (often_back rs ss often))

-- ---- formulas

-- texts that can stand mean formulas by the grammar, one list of them only
pub formulas_some : (rs : List Text) → CanStand rs → (fs : List (Formula Name)) × AreRules rs fs
formulas_some rs h = (h.formulas, h.rules)

pub formulas_one : (rs : List Text) (fs gs : List (Formula Name)) → AreRules rs fs → AreRules rs gs → fs ≡ gs
formulas_one = Rules.are_one

-- they are those that are computed from the texts
pub formulas_computed : (rs : List Text) (fs : List (Formula Name)) → AreRules rs fs → fs ≡ formulas_of rs
formulas_computed = Rules.are_formulas

-- in another order the same texts have a floor that counts and meets them exactly where they have one in this
pub no_floor_order : (rs ss : List Text) → EquallyOften rs ss → (q : Question) → NoFloor q (formulas_of rs) ↔ NoFloor q (formulas_of ss)
no_floor_order rs ss often q = (Order.no_floor_order rs ss often q, Order.no_floor_order ss rs (often_back rs ss often) q)

-- ---- calls

-- a call of the code is a step of a list of calls
pub add_steps : (t : Table) (s : Text) (r : AddResult) → Adds t s r → r.table ≡ step t (add s)
add_steps = Running.by_add

pub withdraw_steps : (t : Table) (k : ℕ) (r : WithdrawResult) → Withdraws t k r → r.table ≡ step t (withdraw k)
withdraw_steps = Running.by_withdraw

pub load_steps : (t : Table) (f : Text) (r : LoadResult) → Loads t f r → r.table ≡ step t (load f)
load_steps = Running.by_load

pub ask_steps : (q : Question) (t : Table) (buffer : List ℕ) (r : AskResult) (exit : List ℕ) → Asks q t buffer r exit → r.table ≡ step t (ask q buffer)
ask_steps = Running.by_ask

pub judge_steps : (t : Table) (words : List ℕ) (r : JudgeResult) → Judges t words r → r.table ≡ step t (judge words)
judge_steps = Running.by_judge

pub print_steps : (t : Table) (k : ℕ) (buffer : List ℕ) (r : PrintResult) (exit : List ℕ) → Prints t k buffer r exit → r.table ≡ step t (print k buffer)
print_steps = Running.by_print

pub explain_steps : (t : Table) (buffer : List ℕ) (r : ExplainResult) (exit : List ℕ) → Explains t buffer r exit → r.table ≡ step t (explain buffer)
explain_steps = Running.by_explain

pub check_steps : (t : Table) (words : List ℕ) (r : CheckResult) → Checks t words r → r.table ≡ step t (check words)
check_steps = Running.by_check

pub still_steps : (t : Table) (words : List ℕ) (r : StillResult) → StillDoes t words r → r.table ≡ step t (still words)
still_steps = Running.by_still

pub clash_steps : (t : Table) (places : List Bool) (r : ClashResult) (exit : List Bool) → GivesClash t places r exit → r.table ≡ step t (clash places)
clash_steps = Running.by_clash

-- every call maps the table of a list to the table of the list after it
pub call_maps : (rs : List Text) (c : Call) → step (table_of rs) c ≡ table_of (after rs c)
call_maps = Running.step_table

-- ---- the standing rules

-- every list of calls has a list of standing rules by the rows of the table of calls, and one only
pub stands_some : (cs : List Call) → (rs : List Text) × Stands cs rs
stands_some cs = (standing cs, Stands.standing_stands cs)

pub stands_one : (cs : List Call) (rs ss : List Text) → Stands cs rs → Stands cs ss → rs ≡ ss
stands_one cs rs ss h k = Stands.stands_standing cs rs h ∙ sym (Stands.stands_standing cs ss k)

-- "It holds at most 16 rules, 6 names and 16 atoms."; document 02, T-08: "Names go up to 8": they are rules, and within these limits
pub stands_within : (cs : List Call) (rs : List Text) → Stands cs rs → CanStand rs
stands_within = Stands.stands_within

-- it is the one that is computed from the judgements of the calls
pub standing_stands : (cs : List Call) → Stands cs (standing cs)
standing_stands = Stands.standing_stands

pub stands_computed : (cs : List Call) (rs : List Text) → Stands cs rs → rs ≡ standing cs
stands_computed = Stands.stands_standing

-- ---- demand 3, for tables

-- rules that can stand are added in order to the empty table, and none of these adds is refused
pub adds_stand : (ss : List Text) → CanStand ss → standing (adds ss) ≡ ss
adds_stand = Running.adds_stand

pub next_added : (rs : List Text) (s : Text) (ss : List Text) → CanStand (rs ++ s ∷ ss) → judge_add rs s ≡ AddAnswer.Added
next_added = Running.next_added

-- after every list of calls the table is that of the standing rules, added in order to the empty table
pub same_table : (cs : List Call) → Faithful cs
same_table = Running.faithful

-- a table came from us exactly if it is the table after some list of calls
pub from_us_exactly : (t : Table) → FromUs t ↔ ((cs : List Call) × (t ≡ run cs))
from_us_exactly = Running.from_us_runs

-- ---- answers

-- each call has the outcome of the first row that applies, and of no other
pub add_answered : (rs : List Text) (s : Text) → CanStand rs → AddRow rs s (add_outcome (judge_add rs s))
add_answered = Rows.add_row

pub add_answered_only : (rs : List Text) (s : Text) → CanStand rs → (o : Outcome) → AddRow rs s o → o ≡ add_outcome (judge_add rs s)
add_answered_only = Rows.add_row_only

pub withdraw_answered : (rs : List Text) (k : ℕ) → WithdrawRow rs k (withdraw_outcome (judge_withdraw rs k))
withdraw_answered = Rows.withdraw_row

pub withdraw_answered_only : (rs : List Text) (k : ℕ) (o : Outcome) → WithdrawRow rs k o → o ≡ withdraw_outcome (judge_withdraw rs k)
withdraw_answered_only = Rows.withdraw_row_only

pub load_answered : (f : Text) → LoadRow f (load_outcome (judge_load f))
load_answered = LoadRows.load_row

pub load_answered_only : (f : Text) (o : Outcome) → LoadRow f o → o ≡ load_outcome (judge_load f)
load_answered_only = LoadRows.load_row_only

-- "The first refused line ends the load": no load answers that a line ends it and was added
pub load_line_refused : (f : Text) (n : ℕ) → judge_load f ≡ LoadAnswer.Line n AddAnswer.Added → ⊥
load_line_refused = LoadRows.load_line_refused

pub ask_answered : (q : Question) (room : ℕ) (rs : List Text) (fs : List (Formula Name)) → AreRules rs fs → AskRow q rs room (ask_outcome (ask_answer q rs room))
ask_answered q room rs fs are = AskRows.ask_row q room rs (Rules.are_read rs fs are)

pub ask_answered_only : (q : Question) (room : ℕ) (rs : List Text) (o : Outcome) → AskRow q rs room o → o ≡ ask_outcome (ask_answer q rs room)
ask_answered_only = AskRows.ask_row_only

pub judge_answered : (words : List ℕ) (rs : List Text) (fs : List (Formula Name)) → AreRules rs fs → JudgeRow rs words (judge_outcome (judge_answer rs words))
judge_answered words rs fs are = AskRows.judge_row words rs (Rules.are_read rs fs are)

pub judge_answered_only : (words : List ℕ) (rs : List Text) (o : Outcome) → JudgeRow rs words o → o ≡ judge_outcome (judge_answer rs words)
judge_answered_only = AskRows.judge_row_only

pub print_answered : (k room : ℕ) (rs : List Text) (fs : List (Formula Name)) → AreRules rs fs → PrintRow rs k room (print_outcome (print_answer rs k room))
print_answered k room rs fs are = PrintRows.print_row rs k room (Rules.are_read rs fs are)

pub print_answered_only : (k room : ℕ) (rs : List Text) (o : Outcome) → PrintRow rs k room o → o ≡ print_outcome (print_answer rs k room)
print_answered_only k room rs = PrintRows.print_row_only rs k room

pub explain_answered : (room : ℕ) (rs : List Text) (fs : List (Formula Name)) → AreRules rs fs → ExplainRow rs room (explain_outcome (explain_answer rs room))
explain_answered room rs fs are = TreeRows.explain_row room rs (Rules.are_read rs fs are)

pub explain_answered_only : (room : ℕ) (rs : List Text) (o : Outcome) → ExplainRow rs room o → o ≡ explain_outcome (explain_answer rs room)
explain_answered_only = TreeRows.explain_row_only

pub check_answered : (words : List ℕ) (rs : List Text) → CanStand rs → CheckRow rs words (check_outcome (check_answer rs words))
check_answered words rs h = TreeRows.check_row words rs (Rules.are_read rs h.formulas h.rules) (TreeRows.few_for rs h)

pub check_answered_only : (words : List ℕ) (rs : List Text) → CanStand rs → (o : Outcome) → CheckRow rs words o → o ≡ check_outcome (check_answer rs words)
check_answered_only words rs h = TreeRows.check_row_only words rs (TreeRows.few_for rs h)

pub still_answered : (words : List ℕ) (rs : List Text) → CanStand rs → StillRow rs words (still_outcome (still_answer rs words))
still_answered = StillRows.still_row

pub still_answered_only : (words : List ℕ) (rs : List Text) → CanStand rs → (o : Outcome) → StillRow rs words o → o ≡ still_outcome (still_answer rs words)
still_answered_only = StillRows.still_row_only

pub clash_answered : (room : ℕ) (rs : List Text) → CanStand rs → ClashRow rs room (clash_outcome (clash_answer rs room))
clash_answered = ClashRows.clash_row

pub clash_answered_only : (room : ℕ) (rs : List Text) (o : Outcome) → ClashRow rs room o → o ≡ clash_outcome (clash_answer rs room)
clash_answered_only = ClashRows.clash_row_only

-- ---- the texts of atoms

-- 256 bytes have room for each that `Table::atom` gives
pub atom_short : (rs : List Text) → CanStand rs → (which : ℕ) → length (atom_text_of (formulas_of rs) which) ≤ 256
atom_short = Atoms.atom_short

-- ---- rule texts and plan words alone

-- what the cutter of tokens refuses has the number and the place that add gives it, whatever rules stand
pub tokens_refused : (rs : List Text) (s : Text) (k p : ℕ) → lex_outcome (lexed s) ≡ Outcome.Refused k p → add_outcome (judge_add rs s) ≡ Outcome.Refused k p
tokens_refused = Parts.tokens_refused

-- what the reader of rule text refuses has the number and the place that add gives it, whatever rules stand
pub text_refused : (rs : List Text) (s : Text) (k p : ℕ) → rule_outcome (rule_of s).answer ≡ Outcome.Refused k p → add_outcome (judge_add rs s) ≡ Outcome.Refused k p
text_refused = Rows.text_refused

-- the reader of plan words refuses with 13 exactly where the words up to there begin no plan, or end early
pub words_refused : (words : List ℕ) (q : Result PlanArrays NotAPlan) → Reads words q → (j : ℕ) → (plan_outcome q ≡ Outcome.Refused 13 j) ↔ Refusal words j
words_refused = AskRows.words_refused

-- a plan is written where the buffer has room for its words, and else 12 has the words needed
pub words_written : (p : Plan) (buffer : List ℕ) (w : Result ℕ ShortBuffer) (exit : List ℕ) → Writes p buffer w exit
    → (length (words_of p) ≤ length buffer → written_outcome w ≡ Outcome.Plan (length (words_of p)))
    × (length buffer < length (words_of p) → written_outcome w ≡ Outcome.Refused 12 (length (words_of p)))
words_written = Parts.words_written

-- a text is printed where the buffer has room for its bytes, and else 12 has the bytes needed
pub text_printed : (text buffer : List ℕ) (w : Result ℕ ShortBuffer) (exit : List ℕ) → PrintsText text buffer w exit
    → (length text ≤ length buffer → printed_outcome w ≡ Outcome.Text (length text))
    × (length buffer < length text → printed_outcome w ≡ Outcome.Refused 12 (length text))
text_printed = Parts.text_printed
