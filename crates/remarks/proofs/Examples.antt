-- Remarks computed from bytes: the issue's example, and what is expected at a place. Assumes nothing.
use mathlib.Core.Path.{◌≡◌, refl}
use mathlib.Core.Bool.{decide}
use mathlib.Core.List.{List, [], ◌∷◌, map}
use Prim.Native.Nat.{ℕ}
use Prim.Native.String.{String}
use native.Mathlib.Decide.{ℕ_discrete}
use Rattle.formula.specs.Same.{name_discrete, equal_atom, same_atom}
use Rattle.lexer.specs.Text.{bytes}
use Rattle.lexer.specs.Class.{class_of, is_blank, is_alphanumeric, is_sign}
use Rattle.lexer.specs.Spelling.{signs, starts, constant_kind}
use Rattle.lexer.specs.Cutter.{longest, sign_piece, run_length, run_piece, piece_of, cut_from}
use Rattle.lexer.specs.Arrays.{lexed}
use Rattle.syntax.specs.Machine.{run as runMachine, reading}
use Rattle.syntax.specs.Postfix.{puts}
use Rattle.syntax.specs.Rule.{refusal_of, rule_of, meaning_of}
use Rattle.names.specs.Gather.{rule_tokens, with_name, names_after, gathered_of, gathered}
use Rattle.names.specs.Ninth.{places_of}
use Rattle.table.specs.Sheet.{on_first, lines_of, blank_byte, blank_line, filled}
use Rattle.table.specs.Calls.{names_in, atoms_in, judge_names, judge_atoms, judge_room, judge_text, judge_add, judge_lines, judge_load}
use Rattle.report.specs.Lines.{digits, decimal}
use Rattle.remarks.specs.Remark.{shown_part, shown_from, leading, can_stand, expected_at, grammar_sentence, sentences, sentence, said, two_lines, remark_of}

abbrev pub sheet : List ℕ
sheet = bytes "C(raw,cooked)\nC(raw,\n"

pub example : remark_of sheet (judge_load sheet) ≡ bytes "line 2: C(raw,\n              ^ the rule ends too early: a region is missing here (refusal 6)\n"
unfolding class_of is_blank is_alphanumeric is_sign signs starts constant_kind longest sign_piece run_length run_piece piece_of cut_from lexed runMachine reading puts refusal_of rule_of meaning_of decide ℕ_discrete name_discrete equal_atom same_atom places_of rule_tokens with_name names_after gathered_of gathered on_first lines_of blank_byte blank_line filled names_in atoms_in judge_names judge_atoms judge_room judge_text judge_add judge_lines judge_load digits decimal shown_part shown_from leading can_stand expected_at grammar_sentence sentences sentence said two_lines remark_of
example = refl

-- a rule's text, the place at which it is refused, and what is said
abbrev pub places : List (List ℕ × ℕ × String)
places =
    (bytes "C(raw,", 6, "the rule ends too early: a region is missing here")
    ∷ (bytes "a", 1, "the rule ends too early: =0 is missing here")
    ∷ (bytes "C(a", 3, "the rule ends too early: a comma is missing here")
    ∷ (bytes "C(a,b", 5, "the rule ends too early: a closing parenthesis is missing here")
    ∷ (bytes "T &", 3, "the rule ends too early: a formula or a region is missing here")
    ∷ (bytes "C a", 2, "this cannot stand here: an opening parenthesis is expected")
    ∷ (bytes "a & b=0", 2, "this cannot stand here: =0 is expected")
    ∷ (bytes "T T", 2, "this cannot stand here: a sign such as & or | is expected")
    ∷ (bytes "(a=0)*b", 5, "this cannot stand here: a sign such as & or | is expected")
    ∷ []

pub places_computed : map (λ t. sentence 6 t.0 t.1) places ≡ map (λ t. bytes t.2) places
unfolding class_of is_blank is_alphanumeric is_sign signs starts constant_kind longest sign_piece run_length run_piece piece_of cut_from lexed runMachine reading puts refusal_of rule_of can_stand expected_at grammar_sentence sentence
places_computed = refl
