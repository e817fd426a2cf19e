-- The document's own log, and remarks on refused lines, computed from their bytes. Assumes nothing.
use mathlib.Core.Path.{◌≡◌, refl}
use mathlib.Core.Bool.{decide}
use mathlib.Core.List.{[]}
use native.Mathlib.Decide.{ℕ_discrete}
use Rattle.formula.specs.Same.{name_discrete, equal_atom, same_atom}
use Rattle.lexer.specs.Text.{bytes}
use Rattle.lexer.specs.Class.{class_of, is_blank, is_alphanumeric, is_sign}
use Rattle.lexer.specs.Spelling.{signs, starts, constant_kind}
use Rattle.lexer.specs.Cutter.{longest, sign_piece, run_length, run_piece, piece_of, cut_from}
use Rattle.lexer.specs.Arrays.{lexed}
use Rattle.syntax.specs.Machine.{run as runMachine, reading}
use Rattle.syntax.specs.Postfix.{puts}
use Rattle.syntax.specs.Rule.{refusal_of, rule_of, meaning_of}
use Rattle.evalset.specs.Bit.{bit}
use Rattle.contact.specs.Row.{rules_true}
use Rattle.contact.specs.Plan.{separated, may, allowed, fills, given}
use Rattle.contact.specs.Pieces.{allowed_ones, grown, grown_by, whole_piece, piece_meets, check_pieces, piece_given}
use Rattle.contact.specs.Check.{check, points_for, good, first_row}
use Rattle.names.specs.Gather.{rule_tokens, with_name, names_after, gathered_of, gathered}
use Rattle.names.specs.Ninth.{places_of}
use Rattle.lists.specs.Buffer.{over}
use Rattle.plan.specs.Words.{before, words_of}
use Rattle.plan.specs.Links.{pair_of, row_to, links_to}
use Rattle.plan.specs.Given.{given_plan}
use Rattle.plan.specs.Plans.{row_plan, plans_of}
use Rattle.remarks.specs.Remark.{shown_part, shown_from, leading, can_stand, expected_at, grammar_sentence, sentences, sentence, said, two_lines}
use Rattle.table.specs.Sheet.{on_first}
use Rattle.table.specs.Calls.{names_in, atoms_in, judge_names, judge_atoms, judge_room, judge_text, judge_add, add_rules, judge_withdraw, without, withdraw_rules}
use Rattle.table.specs.Asking.{ask_answer, ask_words}
use Rattle.report.specs.Lines.{digits, decimal}
use Rattle.supportlog.specs.Lines.{split_log, without_return, log_lines}
use Rattle.supportlog.specs.Answers.{answers_text}
use Rattle.supportlog.specs.Run.{number_from, form_of}
use Rattle.supportlog.specs.Steps.{answers_from, answers_of}
use Rattle.supportlog.specs.Remarks.{line_remark}

pub example : answers_text (answers_of (bytes "+T\n?\n-1\n?\n")) ≡ bytes "added\nplan 10000001 20000000 40000002\nwithdrawn\nrefused 11 at 0\n"
unfolding class_of is_blank is_alphanumeric is_sign signs starts constant_kind longest sign_piece run_length run_piece piece_of cut_from lexed runMachine reading puts rule_of meaning_of decide ℕ_discrete name_discrete equal_atom same_atom bit rules_true separated may allowed fills check given allowed_ones grown grown_by whole_piece piece_meets check_pieces piece_given points_for good first_row places_of rule_tokens with_name names_after gathered_of gathered pair_of row_to links_to before words_of over given_plan row_plan plans_of on_first names_in atoms_in judge_names judge_atoms judge_room judge_text judge_add add_rules judge_withdraw without withdraw_rules ask_answer ask_words digits decimal split_log without_return log_lines answers_text number_from form_of answers_from answers_of
example = refl

-- four lines on an empty table, each refused
pub four_remarks : (line_remark [] 1 (bytes "+C(raw,\r") ≡ bytes "line 1: +C(raw,.\n               ^ the rule ends too early: a region is missing here (refusal 6)\n")
    × (line_remark [] 2 (bytes "-1") ≡ bytes "line 2: -1\n         ^ no rule with this number stands (refusal 10)\n")
    × (line_remark [] 3 (bytes "?") ≡ bytes "line 3: ?\n        ^ no rule stands, so there is nothing to ask (refusal 11)\n")
    × (line_remark [] 4 (bytes "T") ≡ bytes "line 4: T\n        ^ a line is + and a rule, - and a number from 1 to 9999, or ? alone (refusal 19)\n")
unfolding class_of is_blank is_alphanumeric is_sign signs starts constant_kind longest sign_piece run_length run_piece piece_of cut_from lexed runMachine reading puts refusal_of rule_of judge_text judge_add judge_withdraw ask_answer digits decimal without_return number_from form_of shown_part shown_from leading can_stand expected_at grammar_sentence sentences sentence said two_lines line_remark
four_remarks = (refl, refl, refl, refl)
