-- What is computed of a line is what is meant: its form is the one that it has, and each call is answered by its row. Assumes nothing.
use mathlib.Core.Path.{◌≡◌, refl, sym, subst}
use mathlib.Core.List.{List, [], ◌∷◌, ◌++◌}
use Prim.Native.Nat.{ℕ, ◌-◌, ◌≤◌, ◌<◌}
use native.Mathlib.Omega.{arith}
use lib.ListN.{length, get_or, drop}
use Rattle.contact.specs.Question.{plain}
use Rattle.plan.specs.Meant.{IsGiven}
use Rattle.table.specs.Sheet.{Text}
use Rattle.table.specs.Rules.{CanStand}
use Rattle.table.specs.Calls.{judge_add, if_added, add_rules, judge_withdraw, without, if_withdrawn, withdraw_rules}
use Rattle.table.specs.Asking.{ask_answer, ask_words}
use Rattle.table.specs.Rows.{AddRow, WithdrawRow, AskRow}
use Rattle.table.specs.Stands.{TakesOut}
use Rattle.table.specs.Numbers.{add_outcome, withdraw_outcome, ask_outcome}
use Rattle.table.specs.declared.AddAnswer.{AddAnswer}
use Rattle.table.specs.declared.WithdrawAnswer.{WithdrawAnswer}
use Rattle.table.specs.declared.Outcome.{Outcome}
use Rattle.table.proofs.Rules.{of_computed}
use Rattle.table.proofs.PrintRows.{kth_is}
use Rattle.table.proofs.Asking.{first_words}
use Rattle.table.proofs.Standing.{stand_add, stand_withdraw}
use Rattle.table.proofs.Claims.{add_answered, withdraw_answered, ask_answered}
use Rattle.supportlog.specs.declared.Form.{Form}
use Rattle.supportlog.specs.declared.LineAnswer.{LineAnswer}
use Rattle.supportlog.specs.Lines.{add, withdraw, ask, IsLine}
use Rattle.supportlog.specs.Answers.{Answer, LineRow, adds, not_added, withdraws, not_withdrawn, plans, no_plan, not_asked, no_form, room}
use Rattle.supportlog.specs.Run.{form_of, line_says, answer_by, rules_by, words_by}
use Rattle.supportlog.specs.Steps.{answer_for}
use Rattle.supportlog.proofs.Forms.{FormSays, form_says}

-- the k-th is taken out
in_range : (rs : List Text) (k : ℕ) (o : Outcome) → WithdrawRow rs k o → o ≡ Outcome.Done → (0 < k) × (k ≤ length rs)
in_range rs k o (WithdrawRow.none h) e = absurd (let z : ◌≡◌ {A = ℕ} 0 1 = cc in omega arith)
in_range rs k o (WithdrawRow.taken a b) e = (a, b)

taken_out : (rs : List Text) (k : ℕ) → WithdrawRow rs k Outcome.Done → TakesOut rs k (without rs (k - 1))
unfolding without kth_is
taken_out rs k row = let r = in_range rs k Outcome.Done row refl in record { text = get_or rs (k - 1) []; kth = kth_is rs k r.0 r.1; left = refl }

module _ (rs : List Text) (l : Text) (words : List ℕ) where
  by_add : IsLine l (add (drop 1 l)) → (a : AddAnswer) → AddRow rs (drop 1 l) (add_outcome a)
      → LineRow rs l (answer_for (line_says LineAnswer.Added (add_outcome a)) words) (if_added a (rs ++ drop 1 l ∷ []) rs)
  by_add is AddAnswer.Added row = adds is row
  by_add is AddAnswer.TooLong row = not_added is row
  by_add is AddAnswer.NoToken row = not_added is row
  by_add is (AddAnswer.ForeignByte i) row = not_added is row
  by_add is (AddAnswer.LongName i) row = not_added is row
  by_add is (AddAnswer.Measured i) row = not_added is row
  by_add is (AddAnswer.GrammarAt i) row = not_added is row
  by_add is AddAnswer.TableFull row = not_added is row
  by_add is (AddAnswer.TooManyNames i) row = not_added is row
  by_add is AddAnswer.TooManyAtoms row = not_added is row

  by_withdraw : (k : ℕ) → IsLine l (withdraw k) → (a : WithdrawAnswer) → WithdrawRow rs k (withdraw_outcome a)
      → LineRow rs l (answer_for (line_says LineAnswer.Withdrawn (withdraw_outcome a)) words) (if_withdrawn a (without rs (k - 1)) rs)
  by_withdraw k is WithdrawAnswer.Withdrawn row = withdraws is row (taken_out rs k row)
  by_withdraw k is (WithdrawAnswer.NoSuchRule j) row = not_withdrawn is row

  by_ask : length words ≡ room → IsLine l ask → (o : Outcome) → AskRow plain rs room o → LineRow rs l (answer_for (line_says LineAnswer.NoPlan o) (ask_words plain rs words)) rs
  by_ask size is o (AskRow.none e) = not_asked is (AskRow.none e)
  by_ask size is o (AskRow.without some are never) = no_plan is (AskRow.without some are never)
  by_ask size is o (AskRow.short some are g h) = not_asked is (AskRow.short some are g h)
  by_ask size is o (AskRow.given {fs} {p} some are g h) =
      let k : IsGiven plain _ p = of_computed rs fs are (λ gs. IsGiven plain gs p) g in
      subst (λ (ws : List ℕ). LineRow rs l (Answer.plan ws) rs) (sym (first_words plain rs words some p k (omega (arith, h, size))))
      (plans is (AskRow.given some are g h) are g)

  pub by_form : CanStand rs → length words ≡ room → (f : Form) → FormSays l f → LineRow rs l (answer_for (answer_by f rs l room) (words_by f rs words)) (rules_by f rs l)
  unfolding add_rules withdraw_rules
  by_form stand size Form.Add is = by_add is (judge_add rs (drop 1 l)) (add_answered rs (drop 1 l) stand)
  by_form stand size (Form.Withdraw k) is = by_withdraw k is (judge_withdraw rs k) (withdraw_answered rs k)
  by_form stand size Form.Ask is = by_ask size is (ask_outcome (ask_answer plain rs room)) (ask_answered plain room rs stand.formulas stand.rules)
  by_form stand size Form.Other is = no_form is

-- a line leaves rules that can stand
pub form_stands : (f : Form) (rs : List Text) (l : Text) → CanStand rs → CanStand (rules_by f rs l)
form_stands Form.Add rs l h = stand_add rs (drop 1 l) h
form_stands (Form.Withdraw k) rs l h = stand_withdraw rs k h
form_stands Form.Ask rs l h = h
form_stands Form.Other rs l h = h

-- the answer and what it leaves are those of the line's row
pub line_answered : (rs : List Text) (l : Text) (words : List ℕ) → CanStand rs → length words ≡ room
    → LineRow rs l (answer_for (answer_by (form_of l) rs l room) (words_by (form_of l) rs words)) (rules_by (form_of l) rs l)
line_answered rs l words stand size = by_form rs l words stand size (form_of l) (form_says l)
