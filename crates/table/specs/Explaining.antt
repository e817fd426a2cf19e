-- What is computed: what explain and check_tree give (document 02, T-06), as functions of the list of standing texts and of what is lent
-- beside the table, and their contracts. Rows says what is meant; proofs/Claims.antt ties the two. Then what
-- atom and atoms give, whose texts are meant in AtomText. Assumes nothing.
use Rattle.std.specs.Prelude.{ℕ, ◌≡◌, cond, List, [], ◌∷◌, map, leb, length, replicate, Result, Ok, Err}
use Rattle.lists.specs.Buffer.{over}
use Rattle.lists.specs.Search.{below}
use Rattle.formula.specs.Formula.{Formula, Name}
use Rattle.lists.specs.declared.ShortBuffer.{ShortBuffer}
use Rattle.printing.specs.Prints.{Prints}
use Rattle.trees.specs.declared.NotClosed.{NotClosed}
use Rattle.trees.specs.Trees.{Tree, words_of}
use Rattle.trees.specs.Checker.{checked_of, trees_of}
use Rattle.explaining.specs.declared.NoTree.{NoTree}
use Rattle.table.specs.declared.AtomText.{AtomText}
use Rattle.table.specs.declared.Table.{Table}
use Rattle.table.specs.declared.ExplainAnswer.{ExplainAnswer}
use Rattle.table.specs.declared.ExplainResult.{ExplainResult}
use Rattle.table.specs.declared.CheckAnswer.{CheckAnswer}
use Rattle.table.specs.declared.CheckResult.{CheckResult}
use Rattle.table.specs.Store.{table_of, rules_of}
use Rattle.table.specs.Sheet.{Text}
use Rattle.table.specs.Calls.{formulas_of, FromUs}
use Rattle.table.specs.AtomText.{atom_text_of}

-- ---- explain

-- the words ws of a tree: "12 in the writer, with the words needed", or the length written
abbrev pub tree_answer : List ℕ → ℕ → ExplainAnswer
tree_answer ws room = cond (leb (length ws) room) (ExplainAnswer.Tree (length ws)) (ExplainAnswer.ShortBuffer (length ws))

-- "17 in the writer, carrying 0, where a plan exists"
abbrev pub told_answer : List Tree → ℕ → ExplainAnswer
told_answer [] room = ExplainAnswer.HasPlan
told_answer (t ∷ ts) room = tree_answer (words_of t) room

-- the writer's answers, as explain's
abbrev pub explanation_answer : Result ℕ NoTree → ExplainAnswer
explanation_answer (Ok n) = ExplainAnswer.Tree n
explanation_answer (Err NoTree.PlanExists) = ExplainAnswer.HasPlan
explanation_answer (Err (NoTree.Short n)) = ExplainAnswer.ShortBuffer n

-- "both calls start with 11"
unfoldable pub explain_answer : List Text → ℕ → ExplainAnswer
explain_answer [] room = ExplainAnswer.NoRule
explain_answer (s ∷ rs) room = told_answer (trees_of (formulas_of (s ∷ rs))) room

-- what lies past the tree is kept, and all of it for another answer
abbrev pub told_words : List Tree → List ℕ → List ℕ
told_words [] buffer = buffer
told_words (t ∷ ts) buffer = cond (leb (length (words_of t)) (length buffer)) (over (words_of t) buffer) buffer

unfoldable pub explain_words : List Text → List ℕ → List ℕ
explain_words [] buffer = buffer
explain_words (s ∷ rs) buffer = told_words (trees_of (formulas_of (s ∷ rs))) buffer

unfoldable pub explained : List Text → List ℕ → ExplainResult
explained rs buffer = record { table = table_of rs; answer = explain_answer rs (length buffer) }

-- the result, and each word of the buffer
pub record Explains (t : Table) (buffer : List ℕ) (r : ExplainResult) (exit : List ℕ) : Type 0 where
  pub result : r ≡ explained (rules_of t) buffer
  pub words : exit ≡ explain_words (rules_of t) buffer
  pub same : r.table ≡ t
  pub from_us : FromUs r.table

-- ---- check_tree

-- "16 in the checker with the index of the first word that .."
abbrev pub verdict_answer : Result Unit NotClosed → CheckAnswer
verdict_answer (Ok u) = CheckAnswer.Closed
verdict_answer (Err e) = CheckAnswer.NotClosed e.at

unfoldable pub check_answer : List Text → List ℕ → CheckAnswer
check_answer [] words = CheckAnswer.NoRule
check_answer (s ∷ rs) words = verdict_answer (checked_of (formulas_of (s ∷ rs)) words)

unfoldable pub tree_checked : List Text → List ℕ → CheckResult
tree_checked rs words = record { table = table_of rs; answer = check_answer rs words }

pub record Checks (t : Table) (words : List ℕ) (r : CheckResult) : Type 0 where
  pub result : r ≡ tree_checked (rules_of t) words
  pub same : r.table ≡ t
  pub from_us : FromUs r.table

-- ---- atom and atoms

-- its text is printed into the buffer, as that of a rule is
abbrev pub GivesAtom : List (Formula Name) → ℕ → List ℕ → Result ℕ ShortBuffer → List ℕ → Type 0
GivesAtom rules which = Prints (atom_text_of rules which)

-- a text in an array, zeros behind it, and those of sixteen numbers
unfoldable pub kept_text : List ℕ → AtomText
kept_text text = record { bytes = over text (replicate 256 0); len = length text }

unfoldable pub texts_of : (ℕ → List ℕ) → List AtomText
texts_of atom = map (λ i. kept_text (atom i)) (below 16)
