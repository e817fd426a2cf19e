-- What is proved of the remark on a sheet, `remark_of`, which `remark` and `remark_sheet` give by their contracts: there is none exactly where the
-- sheet is loaded; the caret stands under the place; what is named as expected can stand there; every remark has room; and the issue's example.
-- Assumes nothing.
use Rattle.std.specs.Prelude.{Some}
use mathlib.Core.Path.{◌≡◌, refl, sym, ap, subst}
use mathlib.Core.List.{List, [], nil≢cons, map}
use Prim.Native.Nat.{ℕ, ◌-◌, ◌^◌, ◌≤◌, ◌<◌}
use native.Mathlib.Omega.{arith}
use lib.ListN.{length, get_or}
use Rattle.lexer.specs.Text.{bytes}
use Rattle.table.specs.Sheet.{Text, lines_of}
use Rattle.table.specs.Calls.{judge_load}
use Rattle.table.specs.Rows.{LoadRow}
use Rattle.table.specs.Numbers.{load_outcome}
use Rattle.table.specs.declared.AddAnswer.{AddAnswer}
use Rattle.table.specs.declared.LoadAnswer.{LoadAnswer}
use Rattle.table.specs.declared.Outcome.{Outcome}
use Rattle.table.proofs.LoadRows.{load_done}
use Rattle.table.proofs.Claims.{load_answered, load_line_refused}
use Rattle.remarks.specs.declared.Expected.{Expected}
use Rattle.remarks.specs.Remark.{gone_on, BeginsRule, spelling, expected_at, sentence, said, two_lines, Under, remark_of}
use Rattle.remarks.proofs.Standing.{stands, expected_stands}
use Rattle.remarks.proofs.Lines.{under, some_bytes, sentence_few, lines_few}
use Rattle.remarks.proofs.Examples

-- ---- the two lines

-- "a caret under the place", of every line and every place in it
pub caret_under : (number : ℕ) (line : Text) (place refusal : ℕ) (words : List ℕ) → place ≤ length line
    → Under number line place (said refusal words) (two_lines number line place refusal words)
caret_under number line place refusal words h = under line place h number refusal words

-- "with what was expected where that is known": the tokens up to the place, and what is named, begin a formula
pub stands_begins : (text : Text) (place : ℕ) (e : Expected) → expected_at text place ≡ Some e → BeginsRule (gone_on text place (spelling e))
stands_begins text place e some = stands text place (spelling e) (expected_stands text place e some)

-- ---- a sheet

-- a load whose remark has no byte
loaded_only : (sheet : Text) → remark_of sheet (judge_load sheet) ≡ [] → judge_load sheet ≡ LoadAnswer.Loaded
unfolding remark_of
loaded_only sheet e = go (judge_load sheet) refl e
  where
    line : (n : ℕ) (a : AddAnswer) → judge_load sheet ≡ LoadAnswer.Line n a → remark_of sheet (LoadAnswer.Line n a) ≡ [] → ⊥
    line n AddAnswer.Added f h = load_line_refused sheet n f
    line n AddAnswer.TooLong f h = some_bytes n (get_or (lines_of sheet) (n - 1) []) _ _ _ h
    line n AddAnswer.NoToken f h = some_bytes n (get_or (lines_of sheet) (n - 1) []) _ _ _ h
    line n (AddAnswer.ForeignByte i) f h = some_bytes n (get_or (lines_of sheet) (n - 1) []) _ _ _ h
    line n (AddAnswer.LongName i) f h = some_bytes n (get_or (lines_of sheet) (n - 1) []) _ _ _ h
    line n (AddAnswer.Measured i) f h = some_bytes n (get_or (lines_of sheet) (n - 1) []) _ _ _ h
    line n (AddAnswer.GrammarAt i) f h = some_bytes n (get_or (lines_of sheet) (n - 1) []) _ _ _ h
    line n AddAnswer.TableFull f h = some_bytes n (get_or (lines_of sheet) (n - 1) []) _ _ _ h
    line n (AddAnswer.TooManyNames i) f h = some_bytes n (get_or (lines_of sheet) (n - 1) []) _ _ _ h
    line n AddAnswer.TooManyAtoms f h = some_bytes n (get_or (lines_of sheet) (n - 1) []) _ _ _ h

    go : (a : LoadAnswer) → judge_load sheet ≡ a → remark_of sheet a ≡ [] → a ≡ LoadAnswer.Loaded
    go LoadAnswer.Loaded f h = refl
    go LoadAnswer.FileTooLong f h = absurd (nil≢cons (sym h))
    go LoadAnswer.AllBlank f h = absurd (nil≢cons (sym h))
    go (LoadAnswer.Line n a) f h = absurd (line n a f h)

-- there is no remark exactly where the sheet is loaded
pub no_remark_exactly : (sheet : Text) → (LoadRow sheet Outcome.Done → remark_of sheet (judge_load sheet) ≡ [])
    × (remark_of sheet (judge_load sheet) ≡ [] → LoadRow sheet Outcome.Done)
unfolding remark_of
no_remark_exactly sheet =
    ((λ row. ap (remark_of sheet) (load_done sheet row)), λ e. subst (LoadRow sheet) (ap load_outcome (loaded_only sheet e)) (load_answered sheet))

-- a remark has at most 335 bytes, whatever a load is said to have answered: the number of a line is a machine word
pub remark_few : (sheet : Text) (n : ℕ) (a : AddAnswer) → n < 2 ^ 64 → length (remark_of sheet (LoadAnswer.Line n a)) ≤ 335
unfolding remark_of
remark_few sheet n a h = go a
  where
    few : (place refusal : ℕ) → refusal < 2 ^ 64 → length (two_lines n (get_or (lines_of sheet) (n - 1) []) place refusal (sentence refusal (get_or (lines_of sheet) (n - 1) []) place)) ≤ 335
    few place refusal k = lines_few n (get_or (lines_of sheet) (n - 1) []) place refusal _ h k (sentence_few refusal (get_or (lines_of sheet) (n - 1) []) place)

    go : (a : AddAnswer) → length (remark_of sheet (LoadAnswer.Line n a)) ≤ 335
    go AddAnswer.Added = omega arith
    go AddAnswer.TooLong = few 256 2 (omega arith)
    go AddAnswer.NoToken = few 0 1 (omega arith)
    go (AddAnswer.ForeignByte i) = few i 3 (omega arith)
    go (AddAnswer.LongName i) = few i 4 (omega arith)
    go (AddAnswer.Measured i) = few i 5 (omega arith)
    go (AddAnswer.GrammarAt i) = few i 6 (omega arith)
    go AddAnswer.TableFull = few 0 9 (omega arith)
    go (AddAnswer.TooManyNames i) = few i 7 (omega arith)
    go AddAnswer.TooManyAtoms = few 0 8 (omega arith)

-- the issue's own example, for the sheet "C(raw,cooked)", "C(raw,"
pub example_printed : remark_of Examples.sheet (judge_load Examples.sheet)
    ≡ bytes "line 2: C(raw,\n              ^ the rule ends too early: a region is missing here (refusal 6)\n"
example_printed = Examples.example

-- what is said of nine texts, document 01's four among them, at the places where they are refused
pub expected_printed : map (λ t. sentence 6 t.0 t.1) Examples.places ≡ map (λ t. bytes t.2) Examples.places
expected_printed = Examples.places_computed
