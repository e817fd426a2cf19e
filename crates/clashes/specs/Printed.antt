-- What is meant: what the program clash prints for a sheet: the rules that clash, each as it was read, behind the number of its line of the sheet;
-- that a plan exists; or the line that floorplan has for a refused sheet. Assumes nothing.
use Rattle.std.specs.Prelude.{◌≡◌, Bool, true, false, cond, List, [], ◌∷◌, ◌++◌, ℕ, suc}
use Rattle.formula.specs.Formula.{Formula, Name}
use Rattle.lexer.specs.Text.{bytes}
use Rattle.contact.specs.Meaning.{Floor, meets_all}
use Rattle.contact.specs.Question.{plain, Counts}
use Rattle.contact.specs.Numbering.{names_of}
use Rattle.clashing.specs.Clash.{IsClash}
use Rattle.printing.specs.Text.{text_of}
use Rattle.table.specs.Sheet.{Text, lines_of, blank_line, filled}
use Rattle.table.specs.Rules.{AreRules}
use Rattle.table.specs.Rows.{LoadRow}
use Rattle.table.specs.declared.Outcome.{Outcome}
use Rattle.report.specs.Lines.{labelled, ended, refused_text}

-- the numbers of the lines that are not blank, where the first line has the number n: "from 1, blank ones counted"
unfoldable pub numbers_from : ℕ → List Text → List ℕ
numbers_from n [] = []
numbers_from n (l ∷ ls) = let later = numbers_from (suc n) ls in cond (blank_line l) later (n ∷ later)

-- "line N: " and the rule as read
unfoldable pub clash_line : ℕ → Formula Name → List ℕ
clash_line n f = labelled (bytes "line ") n ++ (bytes ": " ++ ended (text_of f))

-- "the rules of the set .. one a line", by the numbers of their lines
unfoldable pub clash_lines : List ℕ → List (Formula Name) → List Bool → List ℕ
clash_lines [] rules set = []
clash_lines (n ∷ ns) [] set = []
clash_lines (n ∷ ns) (f ∷ rules) [] = []
clash_lines (n ∷ ns) (f ∷ rules) (true ∷ set) = clash_line n f ++ clash_lines ns rules set
clash_lines (n ∷ ns) (f ∷ rules) (false ∷ set) = clash_lines ns rules set

-- all that the program clash prints for these bytes
pub data ClashPrinted (file : Text) : List ℕ → Type 0 where
  lines : {fs : List (Formula Name)} {set : List Bool} → LoadRow file Outcome.Done → AreRules (filled (lines_of file)) fs → IsClash fs set
      → ClashPrinted file (clash_lines (numbers_from 1 (lines_of file)) fs set)
  -- "or PLAN EXISTS": some finite floor that counts meets its rules
  exists : {fs : List (Formula Name)} → LoadRow file Outcome.Done → AreRules (filled (lines_of file)) fs → (F : Floor Name) → Counts plain (names_of fs) F
      → meets_all F fs ≡ true → ClashPrinted file (ended (bytes "PLAN EXISTS"))
  -- "or the refusal as floorplan has it"
  refused : {number line place : ℕ} → LoadRow file (Outcome.RefusedLine number line place) → ClashPrinted file (refused_text number line place)
