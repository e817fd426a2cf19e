-- What is computed: what `report_building` and `why` answer for a sheet, and each word and byte that they are lent, in every case: their
-- contracts. The claims `plan_lent` and `tree_lent` of proofs/Claims.antt say which sheets have a plan or a tree. Assumes nothing.
use Rattle.std.specs.Prelude.{◌≡◌, List, [], ◌∷◌, map, ℕ, ◌≤◌, length}
use Rattle.formula.specs.Formula.{Formula, Name}
use Rattle.contact.specs.Question.{Question}
use Rattle.lists.specs.Buffer.{over}
use Rattle.names.specs.Gather.{arrays_of, known_of}
use Rattle.plan.specs.Words.{Plan, words_of as planWords}
use Rattle.table.specs.Sheet.{Text, lines_of, filled}
use Rattle.table.specs.Calls.{formulas_of, judge_load, if_loaded}
use Rattle.table.specs.AtomText.{atom_text_of}
use Rattle.table.specs.Explaining.{texts_of}
use Rattle.trees.specs.Trees.{Tree, words_of}
use Rattle.report.specs.declared.TextAnswer.{TextAnswer}
use Rattle.report.specs.declared.PlanResult.{PlanResult}
use Rattle.report.specs.declared.WhyResult.{WhyResult}
use Rattle.report.specs.Pieces.{plan_line_at, line_at, depths_of, Answers}
use Rattle.report.specs.Putting.{text_room}

-- what the rules of a sheet are given where it is loaded, and nothing otherwise
unfoldable pub of_sheet : {A : Type 0} → (List (Formula Name) → List A) → Text → List A
of_sheet given file = if_loaded (judge_load file) (given (formulas_of (filled (lines_of file)))) []

-- the text of the atom with this number
abbrev pub sheet_atoms : Text → ℕ → List ℕ
sheet_atoms file which = of_sheet (λ fs. atom_text_of fs which) file

-- ---- a text, or words: a list of the words of one plan or tree, or of none

-- the text where there are no words, and otherwise one line a word
abbrev pub lent_answer : List ℕ → List (List ℕ) → TextAnswer
lent_answer text [] = TextAnswer.Text (length text)
lent_answer text (ws ∷ wss) = TextAnswer.Lines (length ws)

-- the words over the first ones that are lent; all are as they were where there are none
abbrev pub lent_words : List (List ℕ) → List ℕ → List ℕ
lent_words [] buffer = buffer
lent_words (ws ∷ wss) buffer = over ws buffer

-- the text over the first bytes of the buffer; all are as they were where there are words
abbrev pub lent_bytes : List ℕ → List (List ℕ) → List ℕ → List ℕ
lent_bytes text [] buffer = over text buffer
lent_bytes text (ws ∷ wss) buffer = buffer

pub record Lends (text : List ℕ) (given : List (List ℕ)) (words words-exit buffer exit : List ℕ) (answer : TextAnswer) : Type 0 where
  pub answered : answer ≡ lent_answer text given
  pub words_are : words-exit ≡ lent_words given words
  pub bytes_are : exit ≡ lent_bytes text given buffer

-- ---- a plan: its words and the names of the rules, and for proofs that its text has at most so many bytes
pub record Tells (q : Question) (text : List ℕ) (plans : List Plan) (names : List Name) (words buffer : List ℕ) (r : PlanResult) (words-exit exit : List ℕ) : Type 0 where
  pub lends : Lends text (map planWords plans) words words-exit buffer exit r.answer
  pub names_are : r.names ≡ arrays_of names
  pub answers : Answers text (plan_line_at (known_of r.names) words-exit) buffer exit r.answer
  pub room : (n : ℕ) → r.answer ≡ TextAnswer.Lines n → length text ≤ text_room q

-- ---- a tree: its words with their depths, and the texts of the rules' atoms

pub record Whys (text : List ℕ) (trees : List Tree) (atom : ℕ → List ℕ) (words depths buffer : List ℕ) (r : WhyResult) (words-exit depths-exit exit : List ℕ) : Type 0 where
  pub lends : Lends text (map words_of trees) words words-exit buffer exit r.answer
  pub depths_are : depths-exit ≡ lent_words (map (depths_of 0) trees) depths
  pub atoms_are : r.atoms ≡ texts_of atom
  pub answers : Answers text (line_at words-exit depths-exit r.atoms) buffer exit r.answer
