-- What is meant: the customer's three demands, each as one statement about a list of calls from the empty table. The list is any list of
-- add, withdraw, load, ask for either question, judge, print, explain, check_tree, still and clash, refused ones included, each with any text, number, buffer, plan words or places; the standing rules rs are those that
-- `Stands` makes of the calls alone, by the rows of the table of calls, and their formulas those that the grammar derives. The calls of
-- the code come in by their contracts (Adds, Withdraws, Loads, Asks, Judges, Prints, Explains, Checks, StillDoes, GivesClash, Reads): what holds of every result that a contract allows
-- holds of what the code gives. Assumes nothing.
use Rattle.std.specs.Prelude.{ℕ, ◌≤◌, ◌<◌, ◌≡◌, ◌↔◌, Bool, true, false, List, [], ◌∷◌, ◌++◌, length, get_or, set, take, drop, Result, Ok}
use Rattle.formula.specs.Formula.{Formula, Name}
use Rattle.lists.specs.Search.{In}
use Rattle.lists.specs.Buffer.{over}
use Rattle.syntax.specs.RuleText.{IsRule}
use Rattle.contact.specs.Meaning.{Floor, meets_all}
use Rattle.contact.specs.Question.{Question, plain, building, Counts, NoFloor}
use Rattle.contact.specs.Numbering.{names_of}
use Rattle.plan.specs.declared.NotAPlan.{NotAPlan}
use Rattle.plan.specs.declared.PlanArrays.{PlanArrays}
use Rattle.plan.specs.Words.{Plan, words_of}
use Rattle.plan.specs.Arrays.{Reads}
use Rattle.plan.specs.Stored.{Stored}
use Rattle.table.specs.declared.Table.{Table}
use Rattle.table.specs.declared.Outcome.{Outcome}
use Rattle.table.specs.declared.AddResult.{AddResult}
use Rattle.table.specs.declared.WithdrawResult.{WithdrawResult}
use Rattle.table.specs.declared.LoadResult.{LoadResult}
use Rattle.table.specs.declared.AskResult.{AskResult}
use Rattle.table.specs.declared.JudgeResult.{JudgeResult}
use Rattle.table.specs.declared.PrintResult.{PrintResult}
use Rattle.table.specs.declared.ExplainResult.{ExplainResult}
use Rattle.table.specs.declared.CheckResult.{CheckResult}
use Rattle.table.specs.declared.StillResult.{StillResult}
use Rattle.table.specs.declared.ClashResult.{ClashResult}
use Rattle.table.specs.Store.{table_of}
use Rattle.table.specs.Sheet.{Text}
use Rattle.table.specs.Rules.{AreRules}
use Rattle.table.specs.Calls.{FromUs, Adds, Withdraws, Loads}
use Rattle.table.specs.Asking.{Asks, Judges}
use Rattle.table.specs.Printing.{Prints}
use Rattle.table.specs.Explaining.{Explains, Checks}
use Rattle.table.specs.Still.{StillDoes}
use Rattle.table.specs.Clashing.{GivesClash}
use Rattle.clashing.specs.Clash.{chosen, NoneMeets, SomeMeets, IsClash}
use Rattle.trees.specs.Trees.{Tree, words_of as treeWords}
use Rattle.trees.specs.OfRules.{IsWrittenTree}
use Rattle.printing.specs.Text.{text_of}
use Rattle.table.specs.Numbers.{add_outcome, withdraw_outcome, load_outcome, ask_outcome, judge_outcome, print_outcome, explain_outcome, check_outcome, still_outcome, clash_outcome}
use Rattle.table.specs.Rows.{AddRow, WithdrawRow, LoadRow, SomeStand, AskRow, Decodes, floor_of, JudgeRow, IsKth, PrintRow, ExplainRow, CheckRow, Drawn, StillRow, ClashRow}
use Rattle.table.specs.Stands.{Call, adds}
use Rattle.plan.specs.Meant.{IsGiven, FirstUnmet}

-- "each call taking the table as the last one gave it back": these calls of the code, the first on t, leave the table u
pub data Called : Table → List Call → Table → Type 0 where
  none : {t : Table} → Called t [] t
  add : {t : Table} {s : Text} {r : AddResult} {cs : List Call} {u : Table} → Adds t s r → Called r.table cs u → Called t (Call.add s ∷ cs) u
  withdraw : {t : Table} {k : ℕ} {r : WithdrawResult} {cs : List Call} {u : Table} → Withdraws t k r → Called r.table cs u → Called t (Call.withdraw k ∷ cs) u
  load : {t : Table} {f : Text} {r : LoadResult} {cs : List Call} {u : Table} → Loads t f r → Called r.table cs u → Called t (Call.load f ∷ cs) u
  ask : {t : Table} {q : Question} {buffer : List ℕ} {r : AskResult} {exit : List ℕ} {cs : List Call} {u : Table} → Asks q t buffer r exit → Called r.table cs u → Called t (Call.ask q buffer ∷ cs) u
  judge : {t : Table} {words : List ℕ} {r : JudgeResult} {cs : List Call} {u : Table} → Judges t words r → Called r.table cs u → Called t (Call.judge words ∷ cs) u
  print : {t : Table} {k : ℕ} {buffer : List ℕ} {r : PrintResult} {exit : List ℕ} {cs : List Call} {u : Table} → Prints t k buffer r exit → Called r.table cs u
      → Called t (Call.print k buffer ∷ cs) u
  explain : {t : Table} {buffer : List ℕ} {r : ExplainResult} {exit : List ℕ} {cs : List Call} {u : Table} → Explains t buffer r exit → Called r.table cs u → Called t (Call.explain buffer ∷ cs) u
  check : {t : Table} {words : List ℕ} {r : CheckResult} {cs : List Call} {u : Table} → Checks t words r → Called r.table cs u → Called t (Call.check words ∷ cs) u
  still : {t : Table} {words : List ℕ} {r : StillResult} {cs : List Call} {u : Table} → StillDoes t words r → Called r.table cs u → Called t (Call.still words ∷ cs) u
  clash : {t : Table} {places : List Bool} {r : ClashResult} {exit : List Bool} {cs : List Call} {u : Table} → GivesClash t places r exit → Called r.table cs u → Called t (Call.clash places ∷ cs) u

-- "from an empty table", which is what `Table::empty` gives
abbrev pub Leaves : List Call → Table → Type 0
Leaves cs t = Called (table_of []) cs t

-- ---- demand 1: "a refusal changes no word of it and no part of the rule table, and a malformed, empty or oversized sheet gets its
-- number and its place, while nothing outside that document's list is refused"

-- the row of this outcome, document 01's number with what it carries, applies first, and no other outcome's does
pub record Exactly (Row : Outcome → Type 0) (outcome : Outcome) : Type 0 where
  pub row : Row outcome
  pub only : (o : Outcome) → Row o → o ≡ outcome

-- a call on the table t, where the rules rs stand
-- "Add and load write nothing into the text.", and judge "writes nothing": what they are lent is lent for reading only
pub record Answered (rs : List Text) (t : Table) : Type 0 where
  -- "With a table that came from us, a caller may pass anything without looking at it first."
  pub may_call : FromUs t
  pub add : (s : Text) (r : AddResult) → Adds t s r → Exactly (AddRow rs s) (add_outcome r.answer)
  pub add_refused : (s : Text) (r : AddResult) → Adds t s r → (add_outcome r.answer ≡ Outcome.Done → ⊥) → r.table ≡ t
  pub withdraw : (k : ℕ) (r : WithdrawResult) → Withdraws t k r → Exactly (WithdrawRow rs k) (withdraw_outcome r.answer)
  pub withdraw_refused : (k : ℕ) (r : WithdrawResult) → Withdraws t k r → (withdraw_outcome r.answer ≡ Outcome.Done → ⊥) → r.table ≡ t
  pub load : (f : Text) (r : LoadResult) → Loads t f r → Exactly (LoadRow f) (load_outcome r.answer)
  pub load_refused : (f : Text) (r : LoadResult) → Loads t f r → (load_outcome r.answer ≡ Outcome.Done → ⊥) → r.table ≡ t
  pub ask : (q : Question) (buffer : List ℕ) (r : AskResult) (exit : List ℕ) → Asks q t buffer r exit → Exactly (AskRow q rs (length buffer)) (ask_outcome r.answer)
  pub ask_same : (q : Question) (buffer : List ℕ) (r : AskResult) (exit : List ℕ) → Asks q t buffer r exit → r.table ≡ t
  -- "words past the plan, and all words for no plan, keep their values"; a refusal too writes nothing
  pub ask_written : (q : Question) (buffer : List ℕ) (r : AskResult) (exit : List ℕ) → Asks q t buffer r exit → (fs : List (Formula Name)) → AreRules rs fs → (p : Plan) → IsGiven q fs p
      → ask_outcome r.answer ≡ Outcome.Plan (length (words_of p)) → exit ≡ over (words_of p) buffer
  pub ask_kept : (q : Question) (buffer : List ℕ) (r : AskResult) (exit : List ℕ) → Asks q t buffer r exit → ((n : ℕ) → ask_outcome r.answer ≡ Outcome.Plan n → ⊥) → exit ≡ buffer
  pub judge : (words : List ℕ) (r : JudgeResult) → Judges t words r → Exactly (JudgeRow rs words) (judge_outcome r.answer)
  pub judge_same : (words : List ℕ) (r : JudgeResult) → Judges t words r → r.table ≡ t
  -- document 02, T-02
  pub print : (k : ℕ) (buffer : List ℕ) (r : PrintResult) (exit : List ℕ) → Prints t k buffer r exit → Exactly (PrintRow rs k (length buffer)) (print_outcome r.answer)
  pub print_same : (k : ℕ) (buffer : List ℕ) (r : PrintResult) (exit : List ℕ) → Prints t k buffer r exit → r.table ≡ t
  -- "what lies past it is kept"
  pub print_written : (k : ℕ) (buffer : List ℕ) (r : PrintResult) (exit : List ℕ) → Prints t k buffer r exit → (s : Text) (f : Formula Name) → IsKth rs k s → IsRule s f
      → print_outcome r.answer ≡ Outcome.Text (length (text_of f)) → exit ≡ over (text_of f) buffer
  -- "the buffer keeps its contents"
  pub print_kept : (k : ℕ) (buffer : List ℕ) (r : PrintResult) (exit : List ℕ) → Prints t k buffer r exit → ((n : ℕ) → print_outcome r.answer ≡ Outcome.Text n → ⊥) → exit ≡ buffer
  -- document 02, T-06; "what lies past it is kept" (T-02), and all of it for another answer than a tree
  pub explain : (buffer : List ℕ) (r : ExplainResult) (exit : List ℕ) → Explains t buffer r exit → Exactly (ExplainRow rs (length buffer)) (explain_outcome r.answer)
  pub explain_same : (buffer : List ℕ) (r : ExplainResult) (exit : List ℕ) → Explains t buffer r exit → r.table ≡ t
  pub explain_written : (buffer : List ℕ) (r : ExplainResult) (exit : List ℕ) → Explains t buffer r exit → (fs : List (Formula Name)) → AreRules rs fs → (w : Tree) → IsWrittenTree fs w
      → explain_outcome r.answer ≡ Outcome.Tree (length (treeWords w)) → exit ≡ over (treeWords w) buffer
  pub explain_kept : (buffer : List ℕ) (r : ExplainResult) (exit : List ℕ) → Explains t buffer r exit → ((n : ℕ) → explain_outcome r.answer ≡ Outcome.Tree n → ⊥) → exit ≡ buffer
  pub check : (words : List ℕ) (r : CheckResult) → Checks t words r → Exactly (CheckRow rs words) (check_outcome r.answer)
  pub check_same : (words : List ℕ) (r : CheckResult) → Checks t words r → r.table ≡ t
  -- document 02, T-09
  pub still : (words : List ℕ) (r : StillResult) → StillDoes t words r → Exactly (StillRow rs words) (still_outcome r.answer)
  pub still_same : (words : List ℕ) (r : StillResult) → StillDoes t words r → r.table ≡ t
  -- which rules clash: "Lent places: one a standing rule, true exactly for the set's rules, places past them kept; all kept for another answer."
  pub clash : (places : List Bool) (r : ClashResult) (exit : List Bool) → GivesClash t places r exit → Exactly (ClashRow rs (length places)) (clash_outcome r.answer)
  pub clash_same : (places : List Bool) (r : ClashResult) (exit : List Bool) → GivesClash t places r exit → r.table ≡ t
  pub clash_written : (places : List Bool) (r : ClashResult) (exit : List Bool) → GivesClash t places r exit → (fs : List (Formula Name)) → AreRules rs fs → (s : List Bool) → IsClash fs s
      → clash_outcome r.answer ≡ Outcome.Clash (length s) → exit ≡ s ++ drop (length s) places
  pub clash_kept : (places : List Bool) (r : ClashResult) (exit : List Bool) → GivesClash t places r exit → ((n : ℕ) → clash_outcome r.answer ≡ Outcome.Clash n → ⊥) → exit ≡ places

-- ---- demand 2: "Rule text is read as the grammar of document 01 has it, and a plan given meets every standing rule .. Plan words read
-- back give the plan that was written, and a stranger's plan is judged by the same definition."

-- the words are those of a plan whose floor, over the rules' names in their numbering, counts (document 02, T-07: "each point of a plan must
-- lie in at least one of them") and meets the rules
pub record Met (rs : List Text) (words : List ℕ) : Type 0 where
  pub some : SomeStand rs
  pub formulas : List (Formula Name)
  pub rules : AreRules rs formulas
  pub plan : Plan
  pub decodes : Decodes formulas words plan
  pub covered : Counts plain (names_of formulas) (floor_of decodes)
  pub meets : meets_all (floor_of decodes) formulas ≡ true

-- they are those of such a plan of which rule k, from 1, is the lowest that it does not meet
pub record NotMet (rs : List Text) (words : List ℕ) (k : ℕ) : Type 0 where
  pub some : SomeStand rs
  pub formulas : List (Formula Name)
  pub rules : AreRules rs formulas
  pub plan : Plan
  pub decodes : Decodes formulas words plan
  pub covered : Counts plain (names_of formulas) (floor_of decodes)
  pub lowest : FirstUnmet (floor_of decodes) 1 formulas k

-- they are those of "a plan of one name or more with a point at evaluation 0"
pub record Nowhere (rs : List Text) (words : List ℕ) : Type 0 where
  pub some : SomeStand rs
  pub formulas : List (Formula Name)
  pub rules : AreRules rs formulas
  pub plan : Plan
  pub decodes : Decodes formulas words plan
  pub named : 0 < plan.names
  pub point : In 0 plan.points

-- the words of the plan that the papers define for the question; its floor counts and meets the rules, and what is read from the words is
-- the plan. Of one building: "a plan in which every point can be reached from every other through contacts"
pub record Given (q : Question) (rs : List Text) (words : List ℕ) : Type 0 where
  pub met : Met rs words
  pub counts : Counts q (names_of met.formulas) (floor_of met.decodes)
  pub is : IsGiven q met.formulas met.plan
  pub back : (r : Result PlanArrays NotAPlan) → Reads words r → (arrays : PlanArrays) × (r ≡ Ok arrays) × Stored arrays met.plan

pub record Meant (rs : List Text) (t : Table) : Type 0 where
  -- each standing text is derived by the grammar, and a text means one formula only
  pub formulas : List (Formula Name)
  pub rules : AreRules rs formulas
  pub one : (s : Text) (f g : Formula Name) → IsRule s f → IsRule s g → f ≡ g
  pub given : (q : Question) (buffer : List ℕ) (r : AskResult) (exit : List ℕ) → Asks q t buffer r exit → (n : ℕ) → ask_outcome r.answer ≡ Outcome.Plan n → Given q rs (take n exit)
  -- "Judge answers yes or the lowest unmet rule, from 1"
  pub yes : (words : List ℕ) (r : JudgeResult) → Judges t words r → (judge_outcome r.answer ≡ Outcome.Yes) ↔ Met rs words
  pub unmet : (words : List ℕ) (r : JudgeResult) → Judges t words r → (k : ℕ) → 0 < k → (judge_outcome r.answer ≡ Outcome.Unmet k) ↔ NotMet rs words k
  -- document 02, T-07: it "answers 0, after the refusals and ahead of any rule"
  pub nowhere : (words : List ℕ) (r : JudgeResult) → Judges t words r → (judge_outcome r.answer ≡ Outcome.Unmet 0) ↔ Nowhere rs words

-- ---- demand 3

-- what ask gives after the list, for a question, with any plan buffer; of one building (document 02, T-04): ""No" is said only if no finite floor
-- that hangs together meets the standing rules, and the claim about withdrawn rules holds for this question as well."
pub record AskGives (q : Question) (rs : List Text) (buffer : List ℕ) (r : AskResult) (exit : List ℕ) : Type 0 where
  -- what the standing rules mean
  pub formulas : List (Formula Name)
  pub rules : AreRules rs formulas
  -- "after the list, ask gives refusal 11 where no rule stands"
  pub none : rs ≡ [] → ask_outcome r.answer ≡ Outcome.Refused 11 0
  -- "Where any stands, it says "no plan" exactly when no finite floor with any number of points, one or more, meets all the standing rules"
  pub no_plan : SomeStand rs → (ask_outcome r.answer ≡ Outcome.NoPlan) ↔ NoFloor q formulas
  -- "and otherwise gives the plan that document 01 defines, or refusal 12 where the buffer is too short for it"
  pub plan : SomeStand rs → (p : Plan) → IsGiven q formulas p → length (words_of p) ≤ length buffer
      → (ask_outcome r.answer ≡ Outcome.Plan (length (words_of p))) × (exit ≡ over (words_of p) buffer)
  pub short : SomeStand rs → (p : Plan) → IsGiven q formulas p → length buffer < length (words_of p)
      → (ask_outcome r.answer ≡ Outcome.Refused 12 (length (words_of p))) × (exit ≡ buffer)
  pub otherwise : (F : Floor Name) → Counts q (names_of formulas) F → meets_all F formulas ≡ true → (p : Plan) × IsGiven q formulas p

-- the table after the list, and what is answered and left in what is lent then
pub record Same (rs : List Text) (t : Table) : Type 0 where
  pub gives : (q : Question) (buffer : List ℕ) (r : AskResult) (exit : List ℕ) → Asks q t buffer r exit → AskGives q rs buffer r exit
  -- "the table after the list .. equal to what comes from an empty table to which only the standing rules are added, in their order":
  -- "none of these adds is refused"
  pub table : (u : Table) → Leaves (adds rs) u → t ≡ u
  pub taken : (before : List Text) (s : Text) (later : List Text) → rs ≡ before ++ s ∷ later
      → (u : Table) → Leaves (adds before) u → (r : AddResult) → Adds u s r → add_outcome r.answer ≡ Outcome.Done
  -- "the answer that ask then gives, a refusal too, and every word of its plan buffer .. when ask is lent the same plan buffer"
  pub ask : (u : Table) → Leaves (adds rs) u → (q : Question) (buffer : List ℕ) (r : AskResult) (exit : List ℕ) → Asks q t buffer r exit
      → (s : AskResult) (words : List ℕ) → Asks q u buffer s words → (r ≡ s) × (exit ≡ words)
  -- and so for the other calls that leave the rules as they are: the answer, the table, and every byte or word that is lent
  pub judge : (u : Table) → Leaves (adds rs) u → (words : List ℕ) (r : JudgeResult) → Judges t words r → (s : JudgeResult) → Judges u words s → r ≡ s
  pub print : (u : Table) → Leaves (adds rs) u → (k : ℕ) (buffer : List ℕ) (r : PrintResult) (exit : List ℕ) → Prints t k buffer r exit
      → (s : PrintResult) (bytes : List ℕ) → Prints u k buffer s bytes → (r ≡ s) × (exit ≡ bytes)
  pub explain : (u : Table) → Leaves (adds rs) u → (buffer : List ℕ) (r : ExplainResult) (exit : List ℕ) → Explains t buffer r exit
      → (s : ExplainResult) (words : List ℕ) → Explains u buffer s words → (r ≡ s) × (exit ≡ words)
  pub check : (u : Table) → Leaves (adds rs) u → (words : List ℕ) (r : CheckResult) → Checks t words r → (s : CheckResult) → Checks u words s → r ≡ s
  pub still : (u : Table) → Leaves (adds rs) u → (words : List ℕ) (r : StillResult) → StillDoes t words r → (s : StillResult) → StillDoes u words s → r ≡ s
  pub clash : (u : Table) → Leaves (adds rs) u → (places : List Bool) (r : ClashResult) (exit : List Bool) → GivesClash t places r exit
      → (s : ClashResult) (left : List Bool) → GivesClash u places s left → (r ≡ s) × (exit ≡ left)

-- ---- room: a buffer that never gets 12

-- "An answered plan takes at most 530 words."; a one-building plan has "up to 255 points" (T-08): with its contacts 32,642 words
abbrev pub words_enough : Question → ℕ
words_enough plain = 530
words_enough building = 32642

-- a tree of 16 atoms that splits on all of them in each branch
abbrev pub tree_enough : ℕ
tree_enough = 131071

-- a rule that was read has at most 256 bytes, and "A written rule is never longer than the one that was read" (T-02)
pub record EnoughRoom (t : Table) : Type 0 where
  pub ask : (q : Question) (buffer : List ℕ) (r : AskResult) (exit : List ℕ) → Asks q t buffer r exit → words_enough q ≤ length buffer
      → (needed : ℕ) → ask_outcome r.answer ≡ Outcome.Refused 12 needed → ⊥
  pub explain : (buffer : List ℕ) (r : ExplainResult) (exit : List ℕ) → Explains t buffer r exit → tree_enough ≤ length buffer
      → (needed : ℕ) → explain_outcome r.answer ≡ Outcome.Refused 12 needed → ⊥
  pub print : (k : ℕ) (buffer : List ℕ) (r : PrintResult) (exit : List ℕ) → Prints t k buffer r exit → 256 ≤ length buffer
      → (needed : ℕ) → print_outcome r.answer ≡ Outcome.Refused 12 needed → ⊥
  -- at most 16 rules stand
  pub clash : (places : List Bool) (r : ClashResult) (exit : List Bool) → GivesClash t places r exit → 16 ≤ length places
      → (needed : ℕ) → clash_outcome r.answer ≡ Outcome.Refused 12 needed → ⊥

-- ---- document 02, T-06: the reasons

pub record Reasons (rs : List Text) (t : Table) : Type 0 where
  -- "What it accepts has no plan"
  pub accepted : (words : List ℕ) (r : CheckResult) → Checks t words r → check_outcome r.answer ≡ Outcome.Closed → (fs : List (Formula Name)) → AreRules rs fs → NoFloor plain fs
  -- "and every tree of our writer is accepted"
  pub written : (buffer : List ℕ) (r : ExplainResult) (exit : List ℕ) → Explains t buffer r exit → (n : ℕ) → explain_outcome r.answer ≡ Outcome.Tree n
      → (s : CheckResult) → Checks t (take n exit) s → check_outcome s.answer ≡ Outcome.Closed
  -- where ask says "no plan", and nowhere else, there is a tree: explain does not say that a plan exists
  pub told : SomeStand rs → (buffer : List ℕ) (r : ExplainResult) (exit : List ℕ) → Explains t buffer r exit
      → (lent : List ℕ) (s : AskResult) (words : List ℕ) → Asks plain t lent s words
      → (explain_outcome r.answer ≡ Outcome.Refused 17 0 → ⊥) ↔ (ask_outcome s.answer ≡ Outcome.NoPlan)

-- ---- document 02, T-09: the plan in hand

pub record InHand (rs : List Text) (t : Table) : Type 0 where
  -- "exactly if it then meets the table .. the answer is "yes, as drawn""
  pub drawn : SomeStand rs → (words : List ℕ) (r : StillResult) → StillDoes t words r → (fs : List (Formula Name)) → AreRules rs fs
      → (still_outcome r.answer ≡ Outcome.AsDrawn) ↔ Drawn fs words
  -- "It is "no" exactly when the full question would have no plan, for any lent words, damaged ones too."
  pub no : (words : List ℕ) (r : StillResult) → StillDoes t words r → (lent : List ℕ) (s : AskResult) (exit : List ℕ) → Asks plain t lent s exit
      → (still_outcome r.answer ≡ Outcome.No) ↔ (ask_outcome s.answer ≡ Outcome.NoPlan)

-- ---- which rules clash

pub record Clashing (rs : List Text) (t : Table) : Type 0 where
  -- "clash has an answer exactly where ask says "no plan"", where it is lent a place for each rule
  pub answered : (places : List Bool) (r : ClashResult) (exit : List Bool) → GivesClash t places r exit → length rs ≤ length places
      → (buffer : List ℕ) (s : AskResult) (words : List ℕ) → Asks plain t buffer s words
      → (clash_outcome r.answer ≡ Outcome.Clash (length rs)) ↔ (ask_outcome s.answer ≡ Outcome.NoPlan)
  -- the places have the set that is meant
  pub is : (places : List Bool) (r : ClashResult) (exit : List Bool) → GivesClash t places r exit → (n : ℕ) → clash_outcome r.answer ≡ Outcome.Clash n
      → (fs : List (Formula Name)) → AreRules rs fs → IsClash fs (take n exit)
  -- "no such floor meets all rules of the set"
  pub none : (places : List Bool) (r : ClashResult) (exit : List Bool) → GivesClash t places r exit → (n : ℕ) → clash_outcome r.answer ≡ Outcome.Clash n
      → (fs : List (Formula Name)) → AreRules rs fs → NoneMeets (names_of fs) (chosen (take n exit) fs)
  -- "for each rule of the set some such floor meets the others"
  pub needed : (places : List Bool) (r : ClashResult) (exit : List Bool) → GivesClash t places r exit → (n : ℕ) → clash_outcome r.answer ≡ Outcome.Clash n
      → (fs : List (Formula Name)) → AreRules rs fs → (i : ℕ) → get_or (take n exit) i false ≡ true → SomeMeets (names_of fs) (chosen (set (take n exit) i false) fs)
