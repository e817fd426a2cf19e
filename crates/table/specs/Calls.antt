-- What is computed: what add, withdraw and load give, as functions of the list of standing texts and of what is passed beside the table:
-- "Whether a call is refused follows from the lines below, this list and what was passed beside the table, never from the stored table."
-- Then the one requires of all calls (`FromUs`) and the contracts of these. Rows says what is meant; proofs/Claims.antt ties the two.
-- Assumes nothing.
use Rattle.std.specs.Prelude.{ℕ, suc, ◌+◌, ◌-◌, ◌≡◌, List, [], ◌∷◌, ◌++◌, map, Bool, true, false, cond, length, take, drop, ltb, leb}
use Rattle.formula.specs.Formula.{Formula, Name}
use Rattle.syntax.specs.Rule.{rule_of, meaning_of}
use Rattle.syntax.specs.declared.RuleAnswer.{RuleAnswer}
use Rattle.contact.specs.Numbering.{names_of, different_atoms}
use Rattle.names.specs.Gather.{gathered}
use Rattle.names.specs.declared.NamesAnswer.{NamesAnswer}
use Rattle.table.specs.declared.Table.{Table}
use Rattle.table.specs.declared.AddAnswer.{AddAnswer}
use Rattle.table.specs.declared.AddResult.{AddResult}
use Rattle.table.specs.declared.WithdrawAnswer.{WithdrawAnswer}
use Rattle.table.specs.declared.WithdrawResult.{WithdrawResult}
use Rattle.table.specs.declared.LoadAnswer.{LoadAnswer}
use Rattle.table.specs.declared.LoadResult.{LoadResult}
use Rattle.table.specs.Store.{table_of, rules_of}
use Rattle.table.specs.Sheet.{Text, lines_of, blank_line, filled}
use Rattle.table.specs.Rules.{CanStand}

-- ---- what the standing texts say

-- "Each entry is the rule's text as it came, and means the formula read from it.": of rules, those that the grammar derives
-- (`formulas_computed` of proofs/Claims.antt)
abbrev pub formulas_of : List Text → List (Formula Name)
formulas_of rs = map meaning_of rs

-- "Rules, names and atoms are counted in this list"
unfoldable pub names_in : List Text → List Name
names_in rs = names_of (formulas_of rs)

-- "atoms that are the same count as one": document 02, T-03
unfoldable pub atoms_in : List Text → ℕ
atoms_in rs = length (different_atoms (formulas_of rs))

-- ---- add

-- the reader's answers: refusals 2, 1, 3, 4, 5 and 6
abbrev pub read_answer : RuleAnswer → AddAnswer
read_answer RuleAnswer.Formula = AddAnswer.Added
read_answer RuleAnswer.TooLong = AddAnswer.TooLong
read_answer RuleAnswer.NoToken = AddAnswer.NoToken
read_answer (RuleAnswer.ForeignByte i) = AddAnswer.ForeignByte i
read_answer (RuleAnswer.LongName i) = AddAnswer.LongName i
read_answer (RuleAnswer.Measured i) = AddAnswer.Measured i
read_answer (RuleAnswer.GrammarAt i) = AddAnswer.GrammarAt i

-- refusal 7: "the ninth name" (document 02, T-08), at "that name's first byte"
abbrev pub names_answer : NamesAnswer → AddAnswer
names_answer NamesAnswer.Enough = AddAnswer.Added
names_answer (NamesAnswer.TooManyNames p) = AddAnswer.TooManyNames p

-- one of two by an answer
abbrev pub if_added : {A : Type 0} → AddAnswer → A → A → A
if_added AddAnswer.Added a b = a
if_added AddAnswer.TooLong a b = b
if_added AddAnswer.NoToken a b = b
if_added (AddAnswer.ForeignByte i) a b = b
if_added (AddAnswer.LongName i) a b = b
if_added (AddAnswer.Measured i) a b = b
if_added (AddAnswer.GrammarAt i) a b = b
if_added AddAnswer.TableFull a b = b
if_added (AddAnswer.TooManyNames i) a b = b
if_added AddAnswer.TooManyAtoms a b = b

-- of two judgements the first that refuses
abbrev pub first_refusal : AddAnswer → AddAnswer → AddAnswer
first_refusal a b = if_added a b a

-- "for 7 and 8, add's text is first put at its end"
unfoldable pub judge_names : List Text → Text → AddAnswer
judge_names rs s = names_answer (gathered s (names_in rs)).answer

-- refusal 8: "more than 16 atoms in all", now "at the seventeenth different atom, in its old place"
unfoldable pub judge_atoms : List Text → Text → AddAnswer
judge_atoms rs s = cond (ltb 16 (atoms_in (rs ++ s ∷ []))) AddAnswer.TooManyAtoms AddAnswer.Added

-- refusals 9, 7 and 8; 9: "16 rules stand"
unfoldable pub judge_room : List Text → Text → AddAnswer
judge_room rs s = cond (leb 16 (length rs)) AddAnswer.TableFull (first_refusal (judge_names rs s) (judge_atoms rs s))

-- refusals 2, 1 and 3 to 6: the reader's
unfoldable pub judge_text : Text → AddAnswer
judge_text s = read_answer (rule_of s).answer

-- how add's text is judged where the texts rs stand
unfoldable pub judge_add : List Text → Text → AddAnswer
judge_add rs s = first_refusal (judge_text s) (judge_room rs s)

-- "add puts its rule last"
unfoldable pub add_rules : List Text → Text → List Text
add_rules rs s = if_added (judge_add rs s) (rs ++ s ∷ []) rs

-- the table that add hands back, with its answer
unfoldable pub added : List Text → Text → AddResult
added rs s = record { table = table_of (add_rules rs s); answer = judge_add rs s }

-- ---- withdraw

-- refusal 10: "k is 0 or above the number of rules"
unfoldable pub judge_withdraw : List Text → ℕ → WithdrawAnswer
judge_withdraw rs k =
    cond (leb k 0) (WithdrawAnswer.NoSuchRule k) (cond (ltb (length rs) k) (WithdrawAnswer.NoSuchRule k) WithdrawAnswer.Withdrawn)

-- without the one at place i, from 0
unfoldable pub without : {A : Type 0} → List A → ℕ → List A
without rs i = take i rs ++ drop (suc i) rs

abbrev pub if_withdrawn : {A : Type 0} → WithdrawAnswer → A → A → A
if_withdrawn WithdrawAnswer.Withdrawn a b = a
if_withdrawn (WithdrawAnswer.NoSuchRule k) a b = b

-- "withdraw k takes out the k-th"
unfoldable pub withdraw_rules : List Text → ℕ → List Text
withdraw_rules rs k = if_withdrawn (judge_withdraw rs k) (without rs (k - 1)) rs

-- the table that withdraw hands back, with its answer
unfoldable pub withdrawn : List Text → ℕ → WithdrawResult
withdrawn rs k = record { table = table_of (withdraw_rules rs k); answer = judge_withdraw rs k }

-- ---- load

-- the lines from a place on; past the end there is none
unfoldable pub lines_from : Text → ℕ → List Text
lines_from f from = cond (leb from (length f)) (lines_of (drop from f)) []

-- "Load's lines that are not blank are judged as adds that start from an empty list"; "line (from 1, blank ones counted)":
-- the lines from line n on, where rs stand
unfoldable pub judge_lines : ℕ → List Text → List Text → LoadAnswer
judge_lines n rs [] = LoadAnswer.Loaded
judge_lines n rs (l ∷ ls) =
    cond (blank_line l) (judge_lines (n + 1) rs ls) (if_added (judge_add rs l) (judge_lines (n + 1) (rs ++ l ∷ []) ls) (LoadAnswer.Line n (judge_add rs l)))

abbrev pub is_none : List Text → Bool
is_none [] = true
is_none (l ∷ ls) = false

-- refusal 15: "more than 8,192 bytes"; refusal 1: "every line blank, or no byte"
unfoldable pub judge_load : Text → LoadAnswer
judge_load f =
    cond (ltb 8192 (length f)) LoadAnswer.FileTooLong
    (cond (is_none (filled (lines_of f))) LoadAnswer.AllBlank
    (judge_lines 1 [] (lines_of f)))

abbrev pub if_loaded : {A : Type 0} → LoadAnswer → A → A → A
if_loaded LoadAnswer.Loaded a b = a
if_loaded LoadAnswer.FileTooLong a b = b
if_loaded LoadAnswer.AllBlank a b = b
if_loaded (LoadAnswer.Line n r) a b = b

-- "load puts its own list in their place, which is its lines that are not blank"
unfoldable pub load_rules : List Text → Text → List Text
load_rules rs f = if_loaded (judge_load f) (filled (lines_of f)) rs

-- the table that load hands back, with its answer
unfoldable pub loaded : List Text → Text → LoadResult
loaded rs f = record { table = table_of (load_rules rs f); answer = judge_load f }

-- ---- a table that came from us

-- "A table is the empty one or one that a call gave back": proofs/Claims.antt shows that these are exactly those
pub record FromUs (t : Table) : Type 0 where
  pub same : t ≡ table_of (rules_of t)
  pub standing : CanStand (rules_of t)

-- ---- the contracts

-- what add answers of the table t
pub record Adds (t : Table) (s : Text) (r : AddResult) : Type 0 where
  pub result : r ≡ added (rules_of t) s
  pub from_us : FromUs r.table

-- what withdraw answers of it
pub record Withdraws (t : Table) (k : ℕ) (r : WithdrawResult) : Type 0 where
  pub result : r ≡ withdrawn (rules_of t) k
  pub from_us : FromUs r.table

-- what load answers of it
pub record Loads (t : Table) (f : Text) (r : LoadResult) : Type 0 where
  pub result : r ≡ loaded (rules_of t) f
  pub from_us : FromUs r.table
