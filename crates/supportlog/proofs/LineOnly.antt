-- One answer only, and one list of rules after it, is meant for a line, and so for a log: each is the one that is computed. Assumes nothing.
use mathlib.Core.Path.{◌≡◌, refl, sym, ap, ap₂, subst, ◌∙◌}
use mathlib.Core.List.{List, [], ◌∷◌, ◌++◌}
use Prim.Native.Nat.{ℕ, ◌-◌, ◌≤◌}
use native.Mathlib.Omega.{arith}
use lib.ListN.{length, drop, length-replicate}
use Rattle.contact.specs.Question.{plain}
use Rattle.plan.specs.Words.{words_of}
use Rattle.plan.specs.Meant.{IsGiven}
use Rattle.table.specs.Sheet.{Text}
use Rattle.table.specs.Rules.{CanStand}
use Rattle.table.specs.Calls.{judge_add, if_added, add_rules, judge_withdraw, without, if_withdrawn, withdraw_rules}
use Rattle.table.specs.Asking.{ask_words}
use Rattle.table.specs.Rows.{AddRow, AskRow, SomeStand}
use Rattle.table.specs.Stands.{TakesOut}
use Rattle.table.specs.Numbers.{add_outcome, withdraw_outcome}
use Rattle.table.specs.declared.AddAnswer.{AddAnswer}
use Rattle.table.specs.declared.WithdrawAnswer.{WithdrawAnswer}
use Rattle.table.specs.declared.Outcome.{Outcome}
use Rattle.table.proofs.Rules.{of_computed}
use Rattle.table.proofs.Asking.{first_words}
use Rattle.table.proofs.Claims.{add_answered_only, withdraw_answered_only, ask_answered_only}
use Rattle.supportlog.specs.declared.Form.{Form}
use Rattle.supportlog.specs.declared.LineAnswer.TheVariants as LineAnswer
use Rattle.supportlog.specs.Lines.{Wanted, add, withdraw, ask, IsLine, plus}
use Rattle.supportlog.specs.Answers.{Answer, LineRow, adds, not_added, withdraws, not_withdrawn, plans, no_plan, not_asked, no_form, room, RunsFrom, end, next}
use Rattle.supportlog.specs.Run.{form_of, line_says, answer_by, rules_by, words_by}
use Rattle.supportlog.specs.Steps.{answer_for, blank, answers_from, rules_from}
use Rattle.supportlog.proofs.Forms.{FormSays, form_says, form_only}
use Rattle.supportlog.proofs.LineRows.{line_answered, form_stands}

-- ---- what a call's outcome picks

add_done : {A : Type 0} (a : AddAnswer) (x y : A) → add_outcome a ≡ Outcome.Done → if_added a x y ≡ x
add_done AddAnswer.Added x y e = refl
add_done AddAnswer.TooLong x y e = absurd (let z : ◌≡◌ {A = ℕ} 0 1 = cc in omega arith)
add_done AddAnswer.NoToken x y e = absurd (let z : ◌≡◌ {A = ℕ} 0 1 = cc in omega arith)
add_done (AddAnswer.ForeignByte i) x y e = absurd (let z : ◌≡◌ {A = ℕ} 0 1 = cc in omega arith)
add_done (AddAnswer.LongName i) x y e = absurd (let z : ◌≡◌ {A = ℕ} 0 1 = cc in omega arith)
add_done (AddAnswer.Measured i) x y e = absurd (let z : ◌≡◌ {A = ℕ} 0 1 = cc in omega arith)
add_done (AddAnswer.GrammarAt i) x y e = absurd (let z : ◌≡◌ {A = ℕ} 0 1 = cc in omega arith)
add_done AddAnswer.TableFull x y e = absurd (let z : ◌≡◌ {A = ℕ} 0 1 = cc in omega arith)
add_done (AddAnswer.TooManyNames i) x y e = absurd (let z : ◌≡◌ {A = ℕ} 0 1 = cc in omega arith)
add_done AddAnswer.TooManyAtoms x y e = absurd (let z : ◌≡◌ {A = ℕ} 0 1 = cc in omega arith)

add_refused : {A : Type 0} (a : AddAnswer) (x y : A) {k p : ℕ} → add_outcome a ≡ Outcome.Refused k p → if_added a x y ≡ y
add_refused AddAnswer.Added x y e = absurd (let z : ◌≡◌ {A = ℕ} 0 1 = cc in omega arith)
add_refused AddAnswer.TooLong x y e = refl
add_refused AddAnswer.NoToken x y e = refl
add_refused (AddAnswer.ForeignByte i) x y e = refl
add_refused (AddAnswer.LongName i) x y e = refl
add_refused (AddAnswer.Measured i) x y e = refl
add_refused (AddAnswer.GrammarAt i) x y e = refl
add_refused AddAnswer.TableFull x y e = refl
add_refused (AddAnswer.TooManyNames i) x y e = refl
add_refused AddAnswer.TooManyAtoms x y e = refl

withdraw_done : {A : Type 0} (a : WithdrawAnswer) (x y : A) → withdraw_outcome a ≡ Outcome.Done → if_withdrawn a x y ≡ x
withdraw_done WithdrawAnswer.Withdrawn x y e = refl
withdraw_done (WithdrawAnswer.NoSuchRule k) x y e = absurd (let z : ◌≡◌ {A = ℕ} 0 1 = cc in omega arith)

withdraw_refused : {A : Type 0} (a : WithdrawAnswer) (x y : A) {n c : ℕ} → withdraw_outcome a ≡ Outcome.Refused n c → if_withdrawn a x y ≡ y
withdraw_refused WithdrawAnswer.Withdrawn x y e = absurd (let z : ◌≡◌ {A = ℕ} 0 1 = cc in omega arith)
withdraw_refused (WithdrawAnswer.NoSuchRule k) x y e = refl

without_at : (before : List Text) (x : Text) (after : List Text) → without (before ++ x ∷ after) (length before) ≡ before ++ after
unfolding without
without_at [] x after = refl
without_at (b ∷ before) x after = ap (λ (l : List Text). b ∷ l) (without_at before x after)

left_is : (rs : List Text) (k : ℕ) (ss : List Text) → TakesOut rs k ss → ss ≡ without rs (k - 1)
left_is rs k ss out =
    let h = out.kth in
    let z : length h.before ≡ k - 1 = omega (arith, h.place) in
    out.left ∙ sym (without_at h.before out.text h.later) ∙ ap₂ without (sym h.parts) z

-- the text of a line that adds
pub tail_of : (l : Text) (s : Text) → IsLine l (add s) → drop 1 l ≡ s
tail_of l s plus = refl

-- a plan that ask gives has room
asked_some : (rs : List Text) (o : Outcome) → AskRow plain rs room o → (n : ℕ) → o ≡ Outcome.Plan n → SomeStand rs × (n ≤ room)
asked_some rs o (AskRow.none e) n f = absurd (let z : ◌≡◌ {A = ℕ} 0 1 = cc in omega arith)
asked_some rs o (AskRow.without some are never) n f = absurd (let z : ◌≡◌ {A = ℕ} 0 1 = cc in omega arith)
asked_some rs o (AskRow.short some are g h) n f = absurd (let z : ◌≡◌ {A = ℕ} 0 1 = cc in omega arith)
asked_some rs o (AskRow.given {p = p} some are g h) n f = let z : length (words_of p) ≡ n = cc in (some, omega (arith, h, z))

other_only : (l : Text) (f : Form) → FormSays l f → ((w : Wanted) → IsLine l w → ⊥) → f ≡ Form.Other
other_only l Form.Add says none = absurd (none _ says)
other_only l (Form.Withdraw k) says none = absurd (none _ says)
other_only l Form.Ask says none = absurd (none _ says)
other_only l Form.Other says none = refl

-- ---- a line

module _ (rs : List Text) (l : Text) (words : List ℕ) (stand : CanStand rs) (size : length words ≡ room) where
  abbrev Only : Answer → List Text → Form → Type 0
  Only a ss f = (a ≡ answer_for (answer_by f rs l room) (words_by f rs words)) × (ss ≡ rules_by f rs l)

  at_form : {a : Answer} {ss : List Text} {f : Form} → form_of l ≡ f → Only a ss f → Only a ss (form_of l)
  at_form {a} {ss} e h = subst (Only a ss) (sym e) h

  adds_only : {s : Text} → IsLine l (add s) → {o : Outcome} → AddRow rs s o → o ≡ add_outcome (judge_add rs (drop 1 l))
  adds_only {s} is {o} row = add_answered_only rs s stand o row ∙ ap (λ (t : Text). add_outcome (judge_add rs t)) (sym (tail_of l s is))

  pub line_only : (a : Answer) (ss : List Text) → LineRow rs l a ss → Only a ss (form_of l)
  unfolding add_rules withdraw_rules
  line_only a ss (adds {s} is row) =
      let o = adds_only is row in
      at_form (form_only l (add s) is) (
        ap (λ (x : Outcome). answer_for (line_says LineAnswer.Added x) words) o,
        ap (λ (t : Text). rs ++ t ∷ []) (sym (tail_of l s is)) ∙ sym (add_done (judge_add rs (drop 1 l)) (rs ++ drop 1 l ∷ []) rs (sym o)),
      )
  line_only a ss (not_added {s} is row) =
      let o = adds_only is row in
      at_form (form_only l (add s) is)
      (ap (λ (x : Outcome). answer_for (line_says LineAnswer.Added x) words) o, sym (add_refused (judge_add rs (drop 1 l)) (rs ++ drop 1 l ∷ []) rs (sym o)))
  line_only a ss (withdraws {k} is row out) =
      let o = withdraw_answered_only rs k _ row in
      at_form (form_only l (withdraw k) is) (
        ap (λ (x : Outcome). answer_for (line_says LineAnswer.Withdrawn x) words) o,
        left_is rs k ss out ∙ sym (withdraw_done (judge_withdraw rs k) (without rs (k - 1)) rs (sym o)),
      )
  line_only a ss (not_withdrawn {k} is row) =
      let o = withdraw_answered_only rs k _ row in
      at_form (form_only l (withdraw k) is)
      (ap (λ (x : Outcome). answer_for (line_says LineAnswer.Withdrawn x) words) o, sym (withdraw_refused (judge_withdraw rs k) (without rs (k - 1)) rs (sym o)))
  line_only a ss (plans {fs} {p} is row are g) =
      let o = ask_answered_only plain room rs _ row in
      let r = asked_some rs _ row (length (words_of p)) refl in
      let k : IsGiven plain _ p = of_computed rs fs are (λ gs. IsGiven plain gs p) g in
      at_form (form_only l ask is) (
        ap Answer.plan (sym (first_words plain rs words r.0 p k (omega (arith, r.1, size))))
            ∙ ap (λ (x : Outcome). answer_for (line_says LineAnswer.NoPlan x) (ask_words plain rs words)) o,
        refl,
      )
  line_only a ss (no_plan is row) =
      at_form (form_only l ask is)
      (ap (λ (x : Outcome). answer_for (line_says LineAnswer.NoPlan x) (ask_words plain rs words)) (ask_answered_only plain room rs _ row), refl)
  line_only a ss (not_asked is row) =
      at_form (form_only l ask is)
      (ap (λ (x : Outcome). answer_for (line_says LineAnswer.NoPlan x) (ask_words plain rs words)) (ask_answered_only plain room rs _ row), refl)
  line_only a ss (no_form none) = at_form (other_only l (form_of l) (form_says l) none) (refl, refl)

-- ---- a log

pub blank_size : length blank ≡ room
blank_size = length-replicate {A = ℕ} room 0

pub run_only : (ls : List Text) {rs : List Text} {answers others : List Answer} {ts us : List Text} → CanStand rs → RunsFrom rs ls answers ts → RunsFrom rs ls others us
    → (answers ≡ others) × (ts ≡ us)
run_only [] stand end end = (refl, refl)
run_only (l ∷ ls) {rs} {us = us} stand (next {ss = ss} {as' = answers} one more) (next {ss = tt'} {as' = others} two rest) =
    let x = line_only rs l blank stand blank_size _ _ one in
    let y = line_only rs l blank stand blank_size _ _ two in
    let same : tt' ≡ ss = y.1 ∙ sym x.1 in
    let r = run_only ls (subst CanStand (sym x.1) (form_stands (form_of l) rs l stand)) more (subst (λ (vs : List Text). RunsFrom vs ls others us) same rest) in
    (ap₂ (λ (a : Answer) (as'' : List Answer). a ∷ as'') (x.0 ∙ sym y.0) r.0, r.1)

-- every list of lines has a run: the one that is computed
pub run_some : (ls rs : List Text) → CanStand rs → RunsFrom rs ls (answers_from rs ls) (rules_from rs ls)
unfolding answers_from rules_from
run_some [] rs stand = end
run_some (l ∷ ls) rs stand =
    next (line_answered rs l blank stand blank_size) (run_some ls (rules_by (form_of l) rs l) (form_stands (form_of l) rs l stand))
