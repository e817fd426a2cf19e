-- What is computed: which lines a sheet gets; proofs/Claims.antt ties it to what is meant (Printed). Assumes nothing.
use Rattle.std.specs.Prelude.{List, [], ◌∷◌, ℕ}
use Rattle.formula.specs.Formula.{Formula, Name}
use Rattle.lexer.specs.Text.{bytes}
use Rattle.contact.specs.Question.{Question}
use Rattle.contact.specs.Numbering.{names_of}
use Rattle.plan.specs.Words.{Plan}
use Rattle.plan.specs.Plans.{plans_of}
use Rattle.table.specs.AtomText.{atom_text_of}
use Rattle.table.specs.Sheet.{Text, lines_of, filled}
use Rattle.table.specs.Calls.{formulas_of, judge_load, if_loaded}
use Rattle.table.specs.declared.Outcome.{Outcome}
use Rattle.table.specs.Numbers.{load_outcome}
use Rattle.trees.specs.Trees.{Tree}
use Rattle.trees.specs.Checker.{trees_of}
use Rattle.report.specs.Lines.{ended, plan_text, rule_lines, refused_text, reason_lines}

-- "Otherwise the one line is "NO PLAN" or .."
abbrev pub plans_text : List Name → List Plan → List ℕ
plans_text names [] = ended (bytes "NO PLAN")
plans_text names (p ∷ ps) = plan_text names p

-- the text of the plan that is given for these rules by the question, or of none
unfoldable pub rules_text : Question → List (Formula Name) → List ℕ
rules_text q rules = plans_text (names_of rules) (plans_of q rules)

-- the text of the writer's tree, or of none
abbrev pub trees_text : (ℕ → List ℕ) → List Tree → List ℕ
trees_text atom [] = ended (bytes "PLAN EXISTS")
trees_text atom (t ∷ ts) = reason_lines atom 0 t

unfoldable pub reasons_text : List (Formula Name) → List ℕ
reasons_text rules = trees_text (atom_text_of rules) (trees_of rules)

-- a load that is refused has a line and a place
abbrev pub outcome_text : Outcome → List ℕ
outcome_text Outcome.Done = []
outcome_text (Outcome.Plan words) = []
outcome_text Outcome.NoPlan = []
outcome_text Outcome.Yes = []
outcome_text (Outcome.Unmet rule) = []
outcome_text (Outcome.Text n) = []
outcome_text (Outcome.Tree n) = []
outcome_text Outcome.Closed = []
outcome_text Outcome.AsDrawn = []
outcome_text Outcome.No = []
outcome_text (Outcome.Clash n) = []
outcome_text (Outcome.Refused number carried) = []
outcome_text (Outcome.RefusedLine number line place) = refused_text number line place

-- ---- a sheet

-- what its rules are given where it is loaded, or the line of its refusal
unfoldable pub sheet_text : (List (Formula Name) → List ℕ) → Text → List ℕ
sheet_text given file =
    let answer = judge_load file in
    let text = given (formulas_of (filled (lines_of file))) in
    if_loaded answer text (outcome_text (load_outcome answer))

-- "The program floorplan reads one sheet": the text for its bytes, by the plain question, and that of the program building, by the other
abbrev pub output_of : Question → Text → List ℕ
output_of q file = sheet_text (rules_text q) file

-- the text of the program asread for them
abbrev pub as_read_of : Text → List ℕ
as_read_of file = sheet_text rule_lines file

-- the text of the program why for them
abbrev pub why_of : Text → List ℕ
why_of file = sheet_text reasons_text file
