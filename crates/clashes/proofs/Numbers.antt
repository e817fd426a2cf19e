-- The numbers of the lines that are not blank, found line by line: those so far, and those of the lines to come. Assumes nothing.
use mathlib.Core.Bool.{Bool, true, false, cond}
use mathlib.Core.Path.{◌≡◌, refl, sym, ap, ◌∙◌}
use mathlib.Core.List.{List, [], ◌∷◌, ◌++◌, append_assoc, append-nil}
use Prim.Native.Nat.{ℕ, suc, ◌+◌, ◌-◌, ◌≤◌, ◌<◌}
use native.Mathlib.Omega.{arith}
use lib.ListN.{length, take, drop, set, length-append}
use lib.Seq.{take_at, take_all}
use borrow.Author.Tests.{le-leb, lt-leb}
use Rattle.lists.specs.Search.{all}
use Rattle.lists.specs.Padded.{pad}
use Rattle.lists.proofs.Padded.{pad_set}
use Rattle.lexer.specs.Class.{is_blank}
use Rattle.table.specs.Sheet.{Text, lines_of, blank_line}
use Rattle.table.specs.Calls.{lines_from}
use Rattle.table.proofs.Scan.{blank_line_lem}
use Rattle.clashes.specs.Printed.{numbers_from}

-- so many lines are passed, up to this place
pub record NumbersTo (file : Text) (numbers : List ℕ) (count line from : ℕ) : Type 0 where
  pub done : List ℕ
  pub is : numbers ≡ pad 16 done
  pub counted : length done ≡ count
  pub few : count ≤ 16
  pub passed : line ≤ from
  pub within : from ≤ length file + 1
  pub to_come : done ++ numbers_from (line + 1) (lines_from file from) ≡ numbers_from 1 (lines_of file)

-- none at first
pub numbers_none : (file : Text) → NumbersTo file (pad 16 []) 0 0 0
unfolding lines_from
numbers_none file =
    record {
      done = [];
      is = refl;
      counted = refl;
      few = omega arith;
      passed = omega arith;
      within = omega arith;
      to_come = ap (λ (b : Bool). numbers_from 1 (cond b (lines_of file) [])) (le-leb 0 (length file) (omega arith));
    }

module _ (file : Text) (numbers : List ℕ) (count line from end : ℕ) (n : NumbersTo file numbers count line from) (more : from ≤ length file) (after : from ≤ end) (in-file : end ≤ length file)
    (cut : lines_of (drop from file) ≡ take (end - from) (drop from file) ∷ lines_from file (end + 1)) where
  abbrev this : Text
  this = take (end - from) (drop from file)

  abbrev later : List ℕ
  later = numbers_from (line + 1 + 1) (lines_from file (end + 1))

  next_lines : lines_from file from ≡ this ∷ lines_from file (end + 1)
  unfolding lines_from
  next_lines = ap (λ (b : Bool). cond b (lines_of (drop from file)) []) (le-leb from (length file) more) ∙ cut

  next_number : (b : Bool) → blank_line this ≡ b → n.done ++ cond b later ((line + 1) ∷ later) ≡ numbers_from 1 (lines_of file)
  unfolding numbers_from
  next_number b e =
      let z : line + 1 + 1 ≡ suc (line + 1) = omega arith in
      ap (λ (k : ℕ). n.done ++ cond b (numbers_from k (lines_from file (end + 1))) ((line + 1) ∷ numbers_from k (lines_from file (end + 1)))) z
      ∙ ap (λ (c : Bool). n.done ++ cond c (numbers_from (suc (line + 1)) (lines_from file (end + 1))) ((line + 1) ∷ numbers_from (suc (line + 1)) (lines_from file (end + 1)))) (sym e)
      ∙ ap (λ (ls : List Text). n.done ++ numbers_from (line + 1) ls) (sym next_lines) ∙ n.to_come

  -- a blank line is passed
  pub numbers_pass : all is_blank this ≡ true → NumbersTo file numbers count (line + 1) (end + 1)
  numbers_pass e =
      record {
        done = n.done;
        is = n.is;
        counted = n.counted;
        few = n.few;
        passed = omega (arith, n.passed);
        within = omega arith;
        to_come = next_number true (sym (blank_line_lem this) ∙ e);
      }

  -- another has its number
  pub numbers_more : all is_blank this ≡ false → count < 16 → NumbersTo file (set numbers count (line + 1)) (count + 1) (line + 1) (end + 1)
  numbers_more e l =
      record {
        done = n.done ++ (line + 1) ∷ [];
        is = ap (λ (xs : List ℕ). set xs count (line + 1)) n.is ∙ pad_set 16 n.done count (line + 1) n.counted l;
        counted = length-append n.done ((line + 1) ∷ []) ∙ (let z : length n.done + 1 ≡ count + 1 = omega (arith, n.counted) in z);
        few = omega arith;
        passed = omega (arith, n.passed);
        within = omega arith;
        to_come = append_assoc n.done ((line + 1) ∷ []) later ∙ next_number false (sym (blank_line_lem this) ∙ e);
      }

module _ (file : Text) (numbers : List ℕ) (count line from : ℕ) (n : NumbersTo file numbers count line from) where
  -- no more than sixteen are asked for
  pub numbers_full : 16 ≤ count → numbers ≡ pad 16 (take 16 (numbers_from 1 (lines_of file)))
  numbers_full l =
      n.is
      ∙ ap (pad 16) (sym (ap (take 16) (sym n.to_come) ∙ take_at n.done (numbers_from (line + 1) (lines_from file from)) 16 (let z : length n.done ≡ 16 = omega (arith, n.counted, n.few) in z)))

  -- past the end there is no line
  pub numbers_all : length file < from → numbers ≡ pad 16 (take 16 (numbers_from 1 (lines_of file)))
  unfolding lines_from numbers_from
  numbers_all l =
      n.is
      ∙ ap (pad 16)
      (sym (take_all 16 n.done (omega (arith, n.counted, n.few)))
      ∙ ap (take 16)
      (sym (append-nil n.done) ∙ ap (λ (b : Bool). n.done ++ numbers_from (line + 1) (cond b (lines_of (drop from file)) [])) (sym (lt-leb from (length file) l)) ∙ n.to_come))
