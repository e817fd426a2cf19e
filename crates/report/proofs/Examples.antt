-- Document 01's texts, computed: the lines from plans and refusals, and its three lines from the bytes of the sheet, by each question. Assumes nothing.
use mathlib.Core.Path.{◌≡◌, refl}
use mathlib.Core.List.{List, [], ◌∷◌, map}
use Prim.Native.Nat.{ℕ}
use Prim.Native.String.{String}
use mathlib.Core.Bool.{decide}
use native.Mathlib.Decide.{ℕ_discrete}
use Rattle.formula.specs.Same.{name_discrete, equal_atom, same_atom}
use Rattle.lexer.specs.Text.{bytes}
use Rattle.lexer.specs.Class.{class_of, is_blank, is_alphanumeric, is_sign}
use Rattle.lexer.specs.Spelling.{signs, starts, constant_kind}
use Rattle.lexer.specs.Cutter.{longest, sign_piece, run_length, run_piece, piece_of, cut_from}
use Rattle.lexer.specs.Arrays.{lexed}
use Rattle.syntax.specs.Machine.{run as runMachine, reading}
use Rattle.syntax.specs.Postfix.{puts}
use Rattle.syntax.specs.Rule.{rule_of, meaning_of}
use Rattle.evalset.specs.Bit.{bit}
use Rattle.contact.specs.Question.{plain, building}
use Rattle.contact.specs.Row.{rules_true}
use Rattle.contact.specs.Plan.{separated, may, allowed, fills, given}
use Rattle.contact.specs.Pieces.{allowed_ones, grown, grown_by, whole_piece, piece_meets, check_pieces, piece_given}
use Rattle.contact.specs.Check.{check, points_for, good, first_row}
use Rattle.names.specs.Gather.{rule_tokens, with_name, names_after, gathered_of, gathered}
use Rattle.names.specs.Ninth.{places_of}
use Rattle.plan.specs.Private.{plan_of}
use Rattle.plan.specs.Links.{pair_of, row_to, links_to}
use Rattle.plan.specs.Given.{given_plan}
use Rattle.plan.specs.Plans.{row_plan, plans_of}
use Rattle.plan.proofs.Examples.{P1, P2}
use Rattle.table.specs.Sheet.{on_first, lines_of, blank_byte, blank_line, filled}
use Rattle.table.specs.Calls.{names_in, atoms_in, judge_names, judge_atoms, judge_room, judge_text, judge_add, judge_lines, judge_load}
use Rattle.report.specs.Output.{rules_text, sheet_text, output_of}
use Rattle.report.specs.Lines.{digits, decimal, head_line, point_names, names_or_none, point_line, point_lines, contact_line, plan_text, refused_text}

-- a text and how it is spelled
abbrev pub texts : List (List ℕ × String)
texts =
    (plan_text [] P1, "PLAN names=0 points=1\npoint 0: -\n")
    ∷ (plan_text (bytes "raw" ∷ bytes "cooked" ∷ []) P2, "PLAN names=2 points=2\npoint 0: raw\npoint 1: cooked\ncontact 0 1\n")
    ∷ (plan_text (bytes "raw" ∷ bytes "cooked" ∷ []) (plan_of 2 (0 ∷ 3 ∷ []) []), "PLAN names=2 points=2\npoint 0: -\npoint 1: raw cooked\n")
    ∷ (refused_text 1 0 0, "refused 1 line 0 at 0\n")
    ∷ (refused_text 6 10 208, "refused 6 line 10 at 208\n")
    ∷ []

pub texts_computed : map (λ t. t.0) texts ≡ map (λ t. bytes t.1) texts
unfolding digits decimal head_line point_names names_or_none point_line point_lines contact_line plan_text refused_text bit
texts_computed = refl

-- P3, from its rule texts, by each question. For one building: raw and cooked are separated, so evaluation 3, in both, is not allowed, and 0 is
-- not, since names are used; 1 and 2 are, each a piece of its own, and neither piece has both regions
abbrev three_lines : List ℕ
three_lines = bytes "~C(raw,cooked)\n~raw=0\n~cooked=0\n"

pub three_lines_lem : (output_of plain three_lines ≡ bytes "PLAN names=2 points=2\npoint 0: raw\npoint 1: cooked\n")
    × (output_of building three_lines ≡ bytes "NO PLAN\n")
unfolding class_of is_blank is_alphanumeric is_sign signs starts constant_kind longest sign_piece run_length run_piece piece_of cut_from lexed runMachine reading puts rule_of meaning_of decide ℕ_discrete name_discrete equal_atom same_atom bit rules_true separated may allowed fills check given allowed_ones grown grown_by whole_piece piece_meets check_pieces piece_given points_for good first_row places_of rule_tokens with_name names_after gathered_of gathered pair_of row_to links_to given_plan row_plan plans_of on_first lines_of blank_byte blank_line filled names_in atoms_in judge_names judge_atoms judge_room judge_text judge_add judge_lines judge_load digits decimal head_line point_names names_or_none point_line point_lines contact_line plan_text rules_text sheet_text
three_lines_lem = (refl, refl)
