-- Print is answered by the row that applies, and by no other. Assumes nothing.
use Prim.Native.Nat.{ℕ, suc, ◌-◌, ◌≤◌, ◌<◌}
use mathlib.Core.Path.{◌≡◌, refl, sym, ap, ◌∙◌, subst}
use mathlib.Core.Logic.{◌⊎◌, inl, inr}
use mathlib.Core.Bool.{Bool, true, false, cond}
use mathlib.Core.List.{List, [], ◌∷◌, ◌++◌}
use native.Mathlib.Omega.{arith}
use lib.Dec.{leb, ltb}
use lib.ListN.{length, take, drop, get_or, length-take, take-append-drop, length-append}
use lib.Seq.{drop-cons}
use borrow.Author.Tests.{leb-true, leb-false, le-leb, lt-leb, ltb-true, ltb-false}
use Rattle.formula.specs.Formula.{Formula, Name}
use Rattle.syntax.specs.RuleText.{IsRule}
use Rattle.syntax.specs.Rule.{meaning_of}
use Rattle.lists.specs.Search.{In, here}
use Rattle.lists.proofs.Search.{in_right}
use Rattle.lists.proofs.Truth.{cases}
use Rattle.lists.specs.Buffer.{over}
use Rattle.syntax.proofs.Claims.{is_rule}
use Rattle.printing.specs.Text.{text_of}
use Rattle.printing.specs.Prints.{printed_text}
use Rattle.printing.proofs.Claims.{gives_text}
use Rattle.table.specs.declared.WithdrawAnswer.{WithdrawAnswer}
use Rattle.table.specs.declared.PrintAnswer.{PrintAnswer}
use Rattle.table.specs.declared.Outcome.{Outcome}
use Rattle.table.specs.Sheet.{Text}
use Rattle.table.specs.Calls.{judge_withdraw, if_withdrawn}
use Rattle.table.specs.Printing.{text_answer, text_bytes, print_answer, print_bytes}
use Rattle.table.specs.Numbers.{print_outcome}
use Rattle.table.specs.Rows.{IsKth, PrintRow}
use Rattle.table.proofs.Results.{withdraw_zero, withdraw_high, withdraw_good}
use Rattle.table.proofs.Rules.{AllRead}

-- the text at the place after others
text_after : (before : List Text) (s : Text) (later : List Text) → get_or (before ++ s ∷ later) (length before) [] ≡ s
text_after [] s later = refl
text_after (b ∷ before) s later = text_after before s later

module _ (rs : List Text) (k : ℕ) where
  -- the k-th, and what stands before and after it
  unfoldable pub kth_is : 0 < k → k ≤ length rs → IsKth rs k (get_or rs (k - 1) [])
  kth_is a b =
      record {
        before = take (k - 1) rs;
        later = drop (suc (k - 1)) rs;
        parts = sym (take-append-drop (k - 1) rs) ∙ ap (λ (l : List Text). take (k - 1) rs ++ l) (drop-cons rs (k - 1) [] (omega arith));
        place = simp length-take (omega arith);
      }

  module _ {s : Text} (h : IsKth rs k s) where
    pub kth_within : (0 < k) × (k ≤ length rs)
    kth_within = (omega (arith, h.place), omega (arith, h.place, ap length h.parts, length-append h.before (s ∷ h.later)))

    kth_at : get_or rs (k - 1) [] ≡ s
    kth_at =
        let z : k - 1 ≡ length h.before = omega (arith, h.place) in
        ap (λ (l : List Text). get_or l (k - 1) []) h.parts ∙ ap (λ (i : ℕ). get_or (h.before ++ s ∷ h.later) i []) z
        ∙ text_after h.before s h.later

    kth_in : In s rs
    kth_in = subst (In s) (sym h.parts) (in_right h.before here)

  -- there is none
  none_there : (k ≡ 0) ⊎ (length rs < k) → judge_withdraw rs k ≡ WithdrawAnswer.NoSuchRule k
  none_there (inl e) = withdraw_zero rs k (omega arith)
  none_there (inr h) = cases (leb k 0) (λ t. withdraw_zero rs k (leb-true _ _ t)) (λ t. withdraw_high rs k (leb-false _ _ t) h)

  module _ (room : ℕ) where
    no_rule : judge_withdraw rs k ≡ WithdrawAnswer.NoSuchRule k → print_answer rs k room ≡ PrintAnswer.NoSuchRule k
    unfolding print_answer
    no_rule e = ap (λ (a : WithdrawAnswer). if_withdrawn a (text_answer (printed_text (get_or rs (k - 1) [])) room) (PrintAnswer.NoSuchRule k)) e

    by_kth : (s : Text) → IsKth rs k s → print_answer rs k room ≡ text_answer (printed_text s) room
    unfolding print_answer
    by_kth s h =
        ap (λ (a : WithdrawAnswer). if_withdrawn a (text_answer (printed_text (get_or rs (k - 1) [])) room) (PrintAnswer.NoSuchRule k)) (withdraw_good rs k (kth_within h).0 (kth_within h).1)
        ∙ ap (λ (t : Text). text_answer (printed_text t) room) (kth_at h)

    abbrev Holds : PrintAnswer → Type 0
    Holds a = PrintRow rs k room (print_outcome a)

    text_row : (s : Text) (f : Formula Name) → IsKth rs k s → IsRule s f → (b : Bool) → leb (length (text_of f)) room ≡ b
        → Holds (cond b (PrintAnswer.Text (length (text_of f))) (PrintAnswer.ShortBuffer (length (text_of f))))
    text_row s f h r true t = PrintRow.text h r (leb-true _ _ t)
    text_row s f h r false t = PrintRow.short h r (leb-false _ _ t)

    kth_row : (s : Text) → IsKth rs k s → IsRule s (meaning_of s) → Holds (print_answer rs k room)
    kth_row s h r =
        subst Holds (sym (by_kth s h ∙ ap (λ (ws : List ℕ). text_answer ws room) (gives_text s (meaning_of s) r))) (text_row s (meaning_of s) h r _ refl)

    pub print_row : AllRead rs → PrintRow rs k room (print_outcome (print_answer rs k room))
    print_row read =
        cases (leb k 0)
        (λ t. subst Holds (sym (no_rule (withdraw_zero rs k (leb-true _ _ t)))) (PrintRow.none (inl (let z : k ≤ 0 = leb-true _ _ t in omega arith))))
        (λ t. cases (ltb (length rs) k)
        (λ u. subst Holds (sym (no_rule (withdraw_high rs k (leb-false _ _ t) (ltb-true _ _ u)))) (PrintRow.none (inr (ltb-true _ _ u))))
        (λ u. let h = kth_is (leb-false _ _ t) (ltb-false _ _ u) in kth_row _ h (is_rule _ (read _ (kth_in h)))))

    -- what the row of a text says
    said : (s : Text) (f : Formula Name) → IsKth rs k s → IsRule s f → (b : Bool) → leb (length (text_of f)) room ≡ b
        → print_outcome (cond b (PrintAnswer.Text (length (text_of f))) (PrintAnswer.ShortBuffer (length (text_of f)))) ≡ print_outcome (print_answer rs k room)
    said s f h r b t =
        ap print_outcome (sym (by_kth s h ∙ ap (λ (ws : List ℕ). text_answer ws room) (gives_text s f r)
        ∙ ap (λ (c : Bool). cond c (PrintAnswer.Text (length (text_of f))) (PrintAnswer.ShortBuffer (length (text_of f)))) t))

    pub print_row_only : (o : Outcome) → PrintRow rs k room o → o ≡ print_outcome (print_answer rs k room)
    print_row_only o (PrintRow.none e) = sym (ap print_outcome (no_rule (none_there e)))
    print_row_only o (PrintRow.short {s} {f} h r l) = said s f h r false (lt-leb (length (text_of f)) room l)
    print_row_only o (PrintRow.text {s} {f} h r l) = said s f h r true (le-leb (length (text_of f)) room l)

    -- where a text is said there was room for it
    pub had_text : (o : Outcome) → PrintRow rs k room o → (n : ℕ) → o ≡ Outcome.Text n → n ≤ room
    had_text o (PrintRow.none e) n f = absurd (let z : ◌≡◌ {A = ℕ} 0 1 = cc in omega arith)
    had_text o (PrintRow.short h r l) n f = absurd (let z : ◌≡◌ {A = ℕ} 0 1 = cc in omega arith)
    had_text o (PrintRow.text {f = g} h r l) n f = let z : length (text_of g) ≡ n = cc in omega arith

  -- ---- the bytes of the buffer

  module _ (buffer : List ℕ) where
    bytes_none : judge_withdraw rs k ≡ WithdrawAnswer.NoSuchRule k → print_bytes rs k buffer ≡ buffer
    unfolding print_bytes
    bytes_none e = ap (λ (a : WithdrawAnswer). if_withdrawn a (text_bytes (printed_text (get_or rs (k - 1) [])) buffer) buffer) e

    by_text : (s : Text) (f : Formula Name) → IsKth rs k s → IsRule s f → print_bytes rs k buffer ≡ text_bytes (text_of f) buffer
    unfolding print_bytes
    by_text s f h r =
        ap (λ (a : WithdrawAnswer). if_withdrawn a (text_bytes (printed_text (get_or rs (k - 1) [])) buffer) buffer) (withdraw_good rs k (kth_within h).0 (kth_within h).1)
        ∙ ap (λ (t : Text). text_bytes (printed_text t) buffer) (kth_at h) ∙ ap (λ (ws : List ℕ). text_bytes ws buffer) (gives_text s f r)

    pub bytes_written : (s : Text) (f : Formula Name) → IsKth rs k s → IsRule s f → length (text_of f) ≤ length buffer → print_bytes rs k buffer ≡ over (text_of f) buffer
    bytes_written s f h r l = by_text s f h r ∙ ap (λ (b : Bool). cond b (over (text_of f) buffer) buffer) (le-leb (length (text_of f)) (length buffer) l)

    pub bytes_kept : (o : Outcome) → PrintRow rs k (length buffer) o → ((n : ℕ) → o ≡ Outcome.Text n → ⊥) → print_bytes rs k buffer ≡ buffer
    bytes_kept o (PrintRow.none e) n = bytes_none (none_there e)
    bytes_kept o (PrintRow.short {s} {f} h r l) n =
        by_text s f h r ∙ ap (λ (b : Bool). cond b (over (text_of f) buffer) buffer) (lt-leb (length (text_of f)) (length buffer) l)
    bytes_kept o (PrintRow.text {s} {f} h r l) n = absurd (n (length (text_of f)) refl)
