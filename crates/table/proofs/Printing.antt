-- Print meets its definition: there is no such rule, or its text is printed. Assumes nothing.
use Prim.Native.Nat.{ℕ, ◌-◌, ◌≤◌, ◌<◌}
use mathlib.Core.Path.{◌≡◌, refl, sym, ap, ap₂, ◌∙◌}
use mathlib.Core.Bool.{Bool, true, false, cond}
use mathlib.Core.List.{List, []}
use native.Mathlib.Omega.{arith}
use lib.Dec.{leb}
use lib.ListN.{length, get_or}
use Rattle.std.specs.Prelude.{Result, Ok, Err}
use Rattle.lists.specs.declared.ShortBuffer.{ShortBuffer}
use Rattle.printing.specs.Prints.{printed_text}
use Rattle.printing.specs.Prints as printing
use Rattle.table.specs.declared.Table.{Table}
use Rattle.table.specs.declared.WithdrawAnswer.{WithdrawAnswer}
use Rattle.table.specs.declared.PrintAnswer.{PrintAnswer}
use Rattle.table.specs.declared.PrintResult.{PrintResult}
use Rattle.table.specs.Store.{rules_of}
use Rattle.table.specs.Sheet.{Text}
use Rattle.table.specs.Calls.{judge_withdraw, if_withdrawn, FromUs}
use Rattle.table.specs.Printing.{text_answer, text_bytes, print_answer, print_bytes, printed, Prints}
use Rattle.table.proofs.Lines.{count_is}
use Rattle.table.proofs.Results.{withdraw_good}

abbrev pub print_result : Table → PrintAnswer → PrintResult
print_result t a = record { table = t; answer = a }

-- the printer's answers, as print's
abbrev pub printed_answer : Result ℕ ShortBuffer → PrintAnswer
printed_answer (Ok n) = PrintAnswer.Text n
printed_answer (Err e) = PrintAnswer.ShortBuffer e.needed

module _ (t : Table) (v : FromUs t) (k : ℕ) (buffer : List ℕ) where
  pub prints_of : (a : PrintAnswer) (exit : List ℕ) → a ≡ print_answer (rules_of t) k (length buffer) → exit ≡ print_bytes (rules_of t) k buffer
      → Prints t k buffer (print_result t a) exit
  unfolding printed
  prints_of a exit e f = record { result = ap₂ print_result v.same e; bytes = f; same = refl; from_us = v }

  pub prints_none : judge_withdraw (rules_of t) k ≡ WithdrawAnswer.NoSuchRule k → Prints t k buffer (print_result t (PrintAnswer.NoSuchRule k)) buffer
  unfolding print_answer print_bytes
  prints_none e =
      let ws = printed_text (get_or (rules_of t) (k - 1) []) in
      prints_of _ _ (sym (ap (λ (a : WithdrawAnswer). if_withdrawn a (text_answer ws (length buffer)) (PrintAnswer.NoSuchRule k)) e))
      (sym (ap (λ (a : WithdrawAnswer). if_withdrawn a (text_bytes ws buffer) buffer) e))

  -- the printer's answer for the text at the k-th place
  pub prints_text : 0 < k → k ≤ t.count → (s : Text) → s ≡ get_or (rules_of t) (k - 1) [] → (p : Result ℕ ShortBuffer) (exit : List ℕ) → printing.Prints (printed_text s) buffer p exit
      → (a : PrintAnswer) → printed_answer p ≡ a → Prints t k buffer (print_result t a) exit
  unfolding print_answer print_bytes
  prints_text low high s is p exit h a e =
      let good = withdraw_good (rules_of t) k low (omega (arith, count_is t v)) in
      let ws = printed_text (get_or (rules_of t) (k - 1) []) in
      let same = ap printed_text is in
      prints_of a exit
      (sym e ∙ ap printed_answer h.answer ∙ either (leb (length (printed_text s)) (length buffer)) (length (printed_text s)) ∙ ap (λ (x : List ℕ). text_answer x (length buffer)) same
      ∙ sym (ap (λ (w : WithdrawAnswer). if_withdrawn w (text_answer ws (length buffer)) (PrintAnswer.NoSuchRule k)) good))
      (h.bytes ∙ ap (λ (x : List ℕ). text_bytes x buffer) same ∙ sym (ap (λ (w : WithdrawAnswer). if_withdrawn w (text_bytes ws buffer) buffer) good))
    where
      either : (b : Bool) (n : ℕ) → printed_answer (cond b (Ok n) (Err (record { needed = n }))) ≡ cond b (PrintAnswer.Text n) (PrintAnswer.ShortBuffer n)
      either true n = refl
      either false n = refl
