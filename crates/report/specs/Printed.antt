-- What is meant: what the program floorplan prints for a sheet (document 01, 'Worked sheets', the last paragraph), what building prints
-- (document 02, T-04), what asread does (T-02), and what why does (T-06); the lines themselves are in Lines. No algorithm: a sheet is refused by its row of the
-- table of calls (`LoadRow`), its rules are the formulas fs that the grammar derives (`AreRules`), the plan is the one that the documents
-- define for the question (`IsGiven`): for floorplan a floor is any finite floor whose points lie in names, where a name is used, for building
-- one that hangs together as well. Assumes nothing.
use Rattle.std.specs.Prelude.{◌≡◌, true, List, ℕ}
use Rattle.formula.specs.Formula.{Formula, Name}
use Rattle.lexer.specs.Text.{bytes}
use Rattle.contact.specs.Meaning.{Floor, meets_all}
use Rattle.contact.specs.Question.{Question, plain, Counts}
use Rattle.contact.specs.Numbering.{names_of}
use Rattle.plan.specs.Words.{Plan}
use Rattle.plan.specs.Meant.{IsGiven}
use Rattle.table.specs.AtomText.{atom_text_of}
use Rattle.table.specs.Sheet.{Text, lines_of, filled}
use Rattle.table.specs.Rules.{AreRules}
use Rattle.table.specs.Rows.{LoadRow}
use Rattle.table.specs.declared.Outcome.{Outcome}
use Rattle.trees.specs.Trees.{Tree}
use Rattle.trees.specs.OfRules.{IsWrittenTree}
use Rattle.report.specs.Lines.{ended, plan_text, rule_lines, refused_text, reason_lines}

-- "The program floorplan reads one sheet": all that it prints for these bytes, by the plain question, and all that building prints, by the
-- question of one building
pub data Printed (q : Question) (file : Text) : List ℕ → Type 0 where
  -- "PLAN names=2 points=2", point lines and contact lines: the plan that is given for the rules of a sheet that is loaded
  plan_lines : {fs : List (Formula Name)} {p : Plan} → LoadRow file Outcome.Done → AreRules (filled (lines_of file)) fs → IsGiven q fs p
      → Printed q file (plan_text (names_of fs) p)
  -- "Otherwise the one line is "NO PLAN"": it is loaded, and no finite floor that counts, of any number of points, meets its rules
  no_plan_line : {fs : List (Formula Name)} → LoadRow file Outcome.Done → AreRules (filled (lines_of file)) fs
      → ((F : Floor Name) → Counts q (names_of fs) F → meets_all F fs ≡ true → ⊥)
      → Printed q file (ended (bytes "NO PLAN"))
  -- "or "refused 1 line 0 at 0" (number, line, place)"
  refused_line : {number line place : ℕ} → LoadRow file (Outcome.RefusedLine number line place) → Printed q file (refused_text number line place)

-- all that the program asread prints for these bytes
pub data AsRead (file : Text) : List ℕ → Type 0 where
  -- the rules of a sheet that is loaded, in their order, each as T-02 writes it
  lines : {fs : List (Formula Name)} → LoadRow file Outcome.Done → AreRules (filled (lines_of file)) fs → AsRead file (rule_lines fs)
  -- the line that floorplan has for a refused one
  refused : {number line place : ℕ} → LoadRow file (Outcome.RefusedLine number line place) → AsRead file (refused_text number line place)

-- all that the program why prints for these bytes
pub data Why (file : Text) : List ℕ → Type 0 where
  -- the tree that the writer gives for the rules of a sheet that is loaded
  reasons : {fs : List (Formula Name)} (t : Tree) → LoadRow file Outcome.Done → AreRules (filled (lines_of file)) fs → IsWrittenTree fs t
      → Why file (reason_lines (atom_text_of fs) 0 t)
  -- or some finite floor that counts meets its rules
  exists : {fs : List (Formula Name)} → LoadRow file Outcome.Done → AreRules (filled (lines_of file)) fs → (F : Floor Name) → Counts plain (names_of fs) F
      → meets_all F fs ≡ true → Why file (ended (bytes "PLAN EXISTS"))
  -- the line that floorplan has for a refused one
  refused : {number line place : ℕ} → LoadRow file (Outcome.RefusedLine number line place) → Why file (refused_text number line place)
