-- What is computed: the form of a line, what it is answered, and what it leaves in the table and in the lent words; and the contracts of
-- `run_line`, `line` and `line_by`. Assumes nothing.
use Rattle.std.specs.Prelude.{◌≡◌, cond, List, [], ◌∷◌, ℕ, ◌+◌, ◌-◌, ◌*◌, eqb, leb, length, get_or, drop}
use Rattle.contact.specs.Question.{plain}
use Rattle.table.specs.Store.{table_of, rules_of}
use Rattle.table.specs.Sheet.{Text}
use Rattle.table.specs.Calls.{judge_add, add_rules, judge_withdraw, withdraw_rules, FromUs}
use Rattle.table.specs.Asking.{ask_answer, ask_words}
use Rattle.table.specs.Numbers.{add_outcome, withdraw_outcome, ask_outcome}
use Rattle.table.specs.declared.Table.{Table}
use Rattle.table.specs.declared.Outcome.{Outcome}
use Rattle.tally.specs.declared.Kind.{Kind}
use Rattle.tally.specs.declared.Tally.{Tally}
use Rattle.tally.specs.Count.{counted_of}
use Rattle.supportlog.specs.declared.Form.{Form}
use Rattle.supportlog.specs.declared.LineAnswer.{LineAnswer}
use Rattle.supportlog.specs.declared.LineResult.{LineResult}

-- ---- the form of a line

-- the number with a digit behind it; 0 for another byte, and for a number above 9999
abbrev pub with_digit : ℕ → ℕ → ℕ
with_digit n d = cond (leb 48 d) (cond (leb d 57) (cond (leb (n * 10 + (d - 48)) 9999) (n * 10 + (d - 48)) 0) 0) 0

-- the number with these digits behind it; 0 where that is none, or begins with 0
unfoldable pub number_from : ℕ → List ℕ → ℕ
number_from n [] = n
number_from n (d ∷ ds) = let m = with_digit n d in cond (eqb m 0) 0 (number_from m ds)

-- a number, if it is one
abbrev pub number_form : ℕ → Form
number_form k = cond (eqb k 0) Form.Other (Form.Withdraw k)

-- by the first byte
abbrev pub form_from : ℕ → Text → Form
form_from b l =
    cond (eqb b 43) Form.Add
    (cond (eqb b 45) (number_form (number_from 0 (drop 1 l)))
    (cond (eqb b 63) (cond (leb (length l) 1) Form.Ask Form.Other) Form.Other))

unfoldable pub form_of : Text → Form
form_of l = cond (leb (length l) 0) Form.Other (form_from (get_or l 0 0) l)

-- ---- a line

-- an outcome as a line's answer, where what is done has this one
abbrev pub line_says : LineAnswer → Outcome → LineAnswer
line_says done Outcome.Done = done
line_says done (Outcome.Plan n) = LineAnswer.Plan n
line_says done Outcome.NoPlan = LineAnswer.NoPlan
line_says done Outcome.Yes = done
line_says done (Outcome.Unmet k) = done
line_says done (Outcome.Text n) = done
line_says done (Outcome.Tree n) = done
line_says done Outcome.Closed = done
line_says done Outcome.AsDrawn = done
line_says done Outcome.No = done
line_says done (Outcome.Clash n) = done
line_says done (Outcome.Refused number carried) = LineAnswer.Refused number carried
line_says done (Outcome.RefusedLine number line place) = LineAnswer.Refused number place

-- "19, carrying 0, for a line of no such form, before the call's own refusals"
abbrev pub answer_by : Form → List Text → Text → ℕ → LineAnswer
answer_by Form.Add rs l room = line_says LineAnswer.Added (add_outcome (judge_add rs (drop 1 l)))
answer_by (Form.Withdraw k) rs l room = line_says LineAnswer.Withdrawn (withdraw_outcome (judge_withdraw rs k))
answer_by Form.Ask rs l room = line_says LineAnswer.NoPlan (ask_outcome (ask_answer plain rs room))
answer_by Form.Other rs l room = LineAnswer.Refused 19 0

abbrev pub rules_by : Form → List Text → Text → List Text
rules_by Form.Add rs l = add_rules rs (drop 1 l)
rules_by (Form.Withdraw k) rs l = withdraw_rules rs k
rules_by Form.Ask rs l = rs
rules_by Form.Other rs l = rs

abbrev pub words_by : Form → List Text → List ℕ → List ℕ
words_by Form.Add rs words = words
words_by (Form.Withdraw k) rs words = words
words_by Form.Ask rs words = ask_words plain rs words
words_by Form.Other rs words = words

unfoldable pub line_answer : List Text → Text → ℕ → LineAnswer
line_answer rs l room = answer_by (form_of l) rs l room

unfoldable pub line_rules : List Text → Text → List Text
line_rules rs l = rules_by (form_of l) rs l

unfoldable pub line_words : List Text → Text → List ℕ → List ℕ
line_words rs l words = words_by (form_of l) rs words

-- ---- the contracts

-- what a line of this form is answered on the table t, and what it leaves
pub record RunsAs (form : Form) (t : Table) (l : Text) (words : List ℕ) (r : LineResult) (exit : List ℕ) : Type 0 where
  pub answer : r.answer ≡ answer_by form (rules_of t) l (length words)
  pub table : r.table ≡ table_of (rules_by form (rules_of t) l)
  pub left : exit ≡ words_by form (rules_of t) words
  pub from_us : FromUs r.table

abbrev pub Runs : Table → Text → List ℕ → LineResult → List ℕ → Type 0
Runs t l words r exit = RunsAs (form_of l) t l words r exit

-- the kind that the tally counts
abbrev pub kind_of : LineAnswer → Kind
kind_of LineAnswer.Added = Kind.Added
kind_of LineAnswer.Withdrawn = Kind.Withdrawn
kind_of (LineAnswer.Plan n) = Kind.Plan
kind_of LineAnswer.NoPlan = Kind.NoPlan
kind_of (LineAnswer.Refused number carried) = Kind.Refused

-- "brought up to date by it, by a refused line too"
abbrev pub tallied : Tally → LineResult → Tally
tallied t r = counted_of t (kind_of r.answer)
