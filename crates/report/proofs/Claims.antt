-- What is proved of the text that the program floorplan prints for a sheet, `output_of` of the plain question, which `report` gives by its
-- contract, of that of building, by the question of one building, which `report_building` and `building_piece` give, of that of asread,
-- `as_read_of`, which `as_read` gives, and of that of why, `why_of`, which `why` and `why_piece` give: for every list of bytes it is what is meant
-- (specs/Printed.antt), and no other text is. Each claim cites the file that proves it. Assumes nothing.
use mathlib.Core.Path.{◌≡◌, sym}
use mathlib.Core.Logic.{◌↔◌, ◌⊎◌}
use mathlib.Core.Bool.{true}
use mathlib.Core.List.{List, [], ◌∷◌}
use Prim.Native.Nat.{ℕ}
use Rattle.formula.specs.Formula.{Formula, Name}
use Rattle.lexer.specs.Text.{bytes}
use Rattle.contact.specs.Meaning.{Floor, meets_all}
use Rattle.contact.specs.Question.{Question, plain, building, Counts, NoFloor}
use Rattle.lists.specs.Search.{collect}
use Rattle.contact.specs.Numbering.{names_of}
use Rattle.plan.specs.Words.{Plan}
use Rattle.plan.specs.Plans.{plans_of}
use Rattle.plan.specs.Meant.{IsGiven}
use Rattle.plan.proofs.Claims.{given_exactly, given_at_most_one}
use Rattle.trees.specs.Trees.{Tree}
use Rattle.trees.specs.OfRules.{IsWrittenTree}
use Rattle.trees.specs.Checker.{trees_of}
use Rattle.table.specs.Sheet.{Text, lines_of, filled}
use Rattle.table.specs.Rules.{AreRules}
use Rattle.table.specs.Rows.{LoadRow}
use Rattle.table.specs.declared.Outcome.TheVariants as Outcome
use Rattle.report.specs.Output.{output_of, as_read_of, why_of}
use Rattle.report.specs.Lent.{of_sheet}
use Rattle.report.specs.Pieces.{Answers, Pieces}
use Rattle.report.specs.declared.TextAnswer.TheVariants as TextAnswer
use Rattle.report.specs.Lines.{ended, plan_text}
use Rattle.report.specs.Printed.{Printed, plan_lines, no_plan_line, AsRead, Why}
use Rattle.report.proofs.Printing as Printing
use Rattle.report.proofs.Pieces as Joined
use Rattle.report.proofs.Examples as Examples

-- for each question, a plan, NO PLAN or a refusal, as it is meant, and one text only is meant
pub printed : (q : Question) (file : Text) → Printed q file (output_of q file)
printed q file = Printing.printed file q

pub printed_only : (q : Question) (file : Text) (out : List ℕ) → Printed q file out → out ≡ output_of q file
printed_only q file = Printing.printed_only file q

-- the rules as T-02 writes them, or the refusal, as it is meant, and one text only is meant
pub as_read : (file : Text) → AsRead file (as_read_of file)
as_read = Printing.as_read

pub as_read_only : (file : Text) (out : List ℕ) → AsRead file out → out ≡ as_read_of file
as_read_only = Printing.as_read_only

-- the tree of T-06's writer in lines, PLAN EXISTS or the refusal, as it is meant, and one text only is meant
pub why : (file : Text) → Why file (why_of file)
why = Printing.why

pub why_only : (file : Text) (out : List ℕ) → Why file out → out ≡ why_of file
why_only = Printing.why_only

-- the line PLAN EXISTS, exactly if the sheet is loaded and some finite floor that counts meets its rules
pub plan_exists_printed : (file : Text) → (why_of file ≡ ended (bytes "PLAN EXISTS"))
    ↔ (LoadRow file Outcome.Done × (fs : List (Formula Name)) × AreRules (filled (lines_of file)) fs × (F : Floor Name) × Counts plain (names_of fs) F × (meets_all F fs ≡ true))
plan_exists_printed file =
    (Printing.some_floor file (why_of file) (why file), λ r. sym (why_only file _ (Why.exists r.0 r.2 r.3 r.4 r.5)))

-- what `report_building` and `why` lend (specs/Lent.antt): the words of a plan or tree, exactly if the sheet is loaded and it is the plan that is
-- given, or the tree that is written, for its rules; there is one, or none and a text
pub plan_lent : (q : Question) (file : Text) (p : Plan) → (of_sheet (plans_of q) file ≡ p ∷ [])
    ↔ (LoadRow file Outcome.Done × (fs : List (Formula Name)) × AreRules (filled (lines_of file)) fs × IsGiven q fs p)
plan_lent q file = Printing.lent file (plans_of q) (IsGiven q) (given_exactly q)

pub plan_or_none : (q : Question) (file : Text) → (of_sheet (plans_of q) file ≡ []) ⊎ ((p : Plan) × (of_sheet (plans_of q) file ≡ p ∷ []))
plan_or_none q file = Printing.lent_or_none file (plans_of q) (given_at_most_one q)

pub tree_lent : (file : Text) (t : Tree) → (of_sheet trees_of file ≡ t ∷ [])
    ↔ (LoadRow file Outcome.Done × (fs : List (Formula Name)) × AreRules (filled (lines_of file)) fs × IsWrittenTree fs t)
tree_lent file = Printing.lent file trees_of IsWrittenTree Printing.tree_exactly

pub tree_or_none : (file : Text) → (of_sheet trees_of file ≡ []) ⊎ ((t : Tree) × (of_sheet trees_of file ≡ t ∷ []))
tree_or_none file = Printing.lent_or_none file trees_of Printing.trees_few

-- where lines are told of, the pieces that are given, each from where the one before it ended, are the text: of one building
-- (`report_building`, `building_piece`) and of a tree (`why`, `why_piece`)
pub pieces_joined : (text : List ℕ) (line : ℕ → List ℕ) (count : ℕ) (buffer exit : List ℕ) → Answers text line buffer exit (TextAnswer.Lines count)
    → (pieces : List (List ℕ)) → Pieces line count 0 pieces → collect (λ p. p) pieces ≡ text
pieces_joined text line count buffer exit told pieces = Joined.all_joined pieces told

-- the line NO PLAN, exactly if the sheet is loaded and no finite floor that counts, of any number of points, meets its rules
pub no_plan_printed : (q : Question) (file : Text) → (output_of q file ≡ ended (bytes "NO PLAN"))
    ↔ (LoadRow file Outcome.Done × (fs : List (Formula Name)) × AreRules (filled (lines_of file)) fs × NoFloor q fs)
no_plan_printed q file =
    (Printing.no_floor file q (output_of q file) (printed q file), λ r. sym (printed_only q file _ (no_plan_line r.0 r.2 r.3)))

-- where the sheet is loaded and a plan is given for its rules, that plan
pub plan_printed : (q : Question) (file : Text) (fs : List (Formula Name)) (p : Plan) → LoadRow file Outcome.Done → AreRules (filled (lines_of file)) fs
    → IsGiven q fs p → output_of q file ≡ plan_text (names_of fs) p
plan_printed q file fs p done are given = sym (printed_only q file _ (plan_lines done are given))

-- "The three lines of P3 give exactly ..", from the bytes of the sheet
pub three_lines_lem : output_of plain (bytes "~C(raw,cooked)\n~raw=0\n~cooked=0\n") ≡ bytes "PLAN names=2 points=2\npoint 0: raw\npoint 1: cooked\n"
three_lines_lem = (Examples.three_lines_lem).0

-- and for one building
pub three_lines_building : output_of building (bytes "~C(raw,cooked)\n~raw=0\n~cooked=0\n")
    ≡ bytes "NO PLAN\n"
three_lines_building = (Examples.three_lines_lem).1
