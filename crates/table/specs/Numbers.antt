-- What is meant: document 01's number of each answer, and what it carries, by the table of calls; of print, explain, check_tree and still, that of document 02; of clash, those of explain. Assumes nothing.
use Rattle.std.specs.Prelude.{ℕ, Result, Ok, Err}
use Rattle.lists.specs.declared.ShortBuffer.{ShortBuffer}
use Rattle.lexer.specs.declared.LexError.{LexError}
use Rattle.lexer.specs.declared.Tokens.{Tokens}
use Rattle.syntax.specs.declared.RuleAnswer.{RuleAnswer}
use Rattle.plan.specs.declared.NotAPlan.{NotAPlan}
use Rattle.plan.specs.declared.PlanArrays.{PlanArrays}
use Rattle.table.specs.declared.Outcome.{Outcome}
use Rattle.table.specs.declared.AddAnswer.{AddAnswer}
use Rattle.table.specs.declared.WithdrawAnswer.{WithdrawAnswer}
use Rattle.table.specs.declared.LoadAnswer.{LoadAnswer}
use Rattle.table.specs.declared.AskAnswer.{AskAnswer}
use Rattle.table.specs.declared.JudgeAnswer.{JudgeAnswer}
use Rattle.table.specs.declared.PrintAnswer.{PrintAnswer}
use Rattle.table.specs.declared.ExplainAnswer.{ExplainAnswer}
use Rattle.table.specs.declared.CheckAnswer.{CheckAnswer}
use Rattle.table.specs.declared.StillAnswer.{StillAnswer}
use Rattle.table.specs.declared.ClashAnswer.{ClashAnswer}

abbrev pub add_outcome : AddAnswer → Outcome
add_outcome AddAnswer.Added = Outcome.Done
add_outcome AddAnswer.TooLong = Outcome.Refused 2 256
add_outcome AddAnswer.NoToken = Outcome.Refused 1 0
add_outcome (AddAnswer.ForeignByte i) = Outcome.Refused 3 i
add_outcome (AddAnswer.LongName i) = Outcome.Refused 4 i
add_outcome (AddAnswer.Measured i) = Outcome.Refused 5 i
add_outcome (AddAnswer.GrammarAt i) = Outcome.Refused 6 i
add_outcome AddAnswer.TableFull = Outcome.Refused 9 0
add_outcome (AddAnswer.TooManyNames i) = Outcome.Refused 7 i
add_outcome AddAnswer.TooManyAtoms = Outcome.Refused 8 0

abbrev pub withdraw_outcome : WithdrawAnswer → Outcome
withdraw_outcome WithdrawAnswer.Withdrawn = Outcome.Done
withdraw_outcome (WithdrawAnswer.NoSuchRule k) = Outcome.Refused 10 k

-- an add's refusal on a line
abbrev pub on_line : ℕ → Outcome → Outcome
on_line n Outcome.Done = Outcome.Done
on_line n (Outcome.Plan w) = Outcome.Plan w
on_line n Outcome.NoPlan = Outcome.NoPlan
on_line n Outcome.Yes = Outcome.Yes
on_line n (Outcome.Unmet k) = Outcome.Unmet k
on_line n (Outcome.Text b) = Outcome.Text b
on_line n (Outcome.Tree w) = Outcome.Tree w
on_line n Outcome.Closed = Outcome.Closed
on_line n Outcome.AsDrawn = Outcome.AsDrawn
on_line n Outcome.No = Outcome.No
on_line n (Outcome.Clash m) = Outcome.Clash m
on_line n (Outcome.Refused k p) = Outcome.RefusedLine k n p
on_line n (Outcome.RefusedLine k l p) = Outcome.RefusedLine k l p

abbrev pub load_outcome : LoadAnswer → Outcome
load_outcome LoadAnswer.Loaded = Outcome.Done
load_outcome LoadAnswer.FileTooLong = Outcome.RefusedLine 15 0 0
load_outcome LoadAnswer.AllBlank = Outcome.RefusedLine 1 0 0
-- of an added line Done, as add has it; no load answers so: the line that ends it is refused (`load_line_refused` of proofs/Claims.antt)
load_outcome (LoadAnswer.Line n a) = on_line n (add_outcome a)

abbrev pub ask_outcome : AskAnswer → Outcome
ask_outcome (AskAnswer.Plan n) = Outcome.Plan n
ask_outcome AskAnswer.NoPlan = Outcome.NoPlan
ask_outcome AskAnswer.NoRule = Outcome.Refused 11 0
ask_outcome (AskAnswer.ShortBuffer n) = Outcome.Refused 12 n

abbrev pub judge_outcome : JudgeAnswer → Outcome
judge_outcome JudgeAnswer.Yes = Outcome.Yes
judge_outcome (JudgeAnswer.Unmet k) = Outcome.Unmet k
-- "answers 0"
judge_outcome JudgeAnswer.Uncovered = Outcome.Unmet 0
judge_outcome JudgeAnswer.NoRule = Outcome.Refused 11 0
judge_outcome (JudgeAnswer.NotAPlan i) = Outcome.Refused 13 i
judge_outcome (JudgeAnswer.NamesDiffer n) = Outcome.Refused 14 n

-- "10 for a bad k and then 12 with the bytes needed"; "the answer carries the length written"
abbrev pub print_outcome : PrintAnswer → Outcome
print_outcome (PrintAnswer.Text n) = Outcome.Text n
print_outcome (PrintAnswer.NoSuchRule k) = Outcome.Refused 10 k
print_outcome (PrintAnswer.ShortBuffer n) = Outcome.Refused 12 n

-- "both calls start with 11"; "17 in the writer, carrying 0, where a plan exists; then 12 in the writer, with the words needed"
abbrev pub explain_outcome : ExplainAnswer → Outcome
explain_outcome (ExplainAnswer.Tree n) = Outcome.Tree n
explain_outcome ExplainAnswer.NoRule = Outcome.Refused 11 0
explain_outcome ExplainAnswer.HasPlan = Outcome.Refused 17 0
explain_outcome (ExplainAnswer.ShortBuffer n) = Outcome.Refused 12 n

-- "16 in the checker with the index of the first word that .."
abbrev pub check_outcome : CheckAnswer → Outcome
check_outcome CheckAnswer.Closed = Outcome.Closed
check_outcome CheckAnswer.NoRule = Outcome.Refused 11 0
check_outcome (CheckAnswer.NotClosed j) = Outcome.Refused 16 j

-- "Refused: 11 only."
abbrev pub still_outcome : StillAnswer → Outcome
still_outcome StillAnswer.AsDrawn = Outcome.AsDrawn
still_outcome StillAnswer.Yes = Outcome.Yes
still_outcome StillAnswer.No = Outcome.No
still_outcome StillAnswer.NoRule = Outcome.Refused 11 0

-- 11, 17 and then 12, as explain's, with the places needed; "the answer carries the length written"
abbrev pub clash_outcome : ClashAnswer → Outcome
clash_outcome (ClashAnswer.Clash n) = Outcome.Clash n
clash_outcome ClashAnswer.NoRule = Outcome.Refused 11 0
clash_outcome ClashAnswer.HasPlan = Outcome.Refused 17 0
clash_outcome (ClashAnswer.ShortBuffer n) = Outcome.Refused 12 n

-- ---- the same of the readers' and the writers' answers

-- a text's tokens alone, as add has it
abbrev pub lex_outcome : Result Tokens LexError → Outcome
lex_outcome (Ok t) = Outcome.Done
lex_outcome (Err LexError.TooLong) = Outcome.Refused 2 256
lex_outcome (Err LexError.NoToken) = Outcome.Refused 1 0
lex_outcome (Err (LexError.ForeignByte i)) = Outcome.Refused 3 i
lex_outcome (Err (LexError.LongName i)) = Outcome.Refused 4 i
lex_outcome (Err (LexError.Measured i)) = Outcome.Refused 5 i

-- a rule text alone, as add has it
abbrev pub rule_outcome : RuleAnswer → Outcome
rule_outcome RuleAnswer.Formula = Outcome.Done
rule_outcome RuleAnswer.TooLong = Outcome.Refused 2 256
rule_outcome RuleAnswer.NoToken = Outcome.Refused 1 0
rule_outcome (RuleAnswer.ForeignByte i) = Outcome.Refused 3 i
rule_outcome (RuleAnswer.LongName i) = Outcome.Refused 4 i
rule_outcome (RuleAnswer.Measured i) = Outcome.Refused 5 i
rule_outcome (RuleAnswer.GrammarAt i) = Outcome.Refused 6 i

-- plan words alone, as judge has them
abbrev pub plan_outcome : Result PlanArrays NotAPlan → Outcome
plan_outcome (Ok plan) = Outcome.Done
plan_outcome (Err e) = Outcome.Refused 13 e.at

-- a plan written as words, as ask has it
abbrev pub written_outcome : Result ℕ ShortBuffer → Outcome
written_outcome (Ok n) = Outcome.Plan n
written_outcome (Err e) = Outcome.Refused 12 e.needed

-- a text printed, as print has it
abbrev pub printed_outcome : Result ℕ ShortBuffer → Outcome
printed_outcome (Ok n) = Outcome.Text n
printed_outcome (Err e) = Outcome.Refused 12 e.needed
