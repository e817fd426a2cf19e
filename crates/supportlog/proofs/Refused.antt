-- A refused line leaves the table and the lent words as they were; and no line of a log is refused 12, since a plan has at most 530 words. Assumes
-- nothing.
use mathlib.Core.Path.{◌≡◌, refl, sym, ap, subst, ◌∙◌}
use mathlib.Core.Bool.{Bool, true, false, cond}
use mathlib.Core.List.{List, [], ◌∷◌, ◌++◌}
use Prim.Native.Nat.{ℕ, ◌-◌, ◌≤◌}
use native.Mathlib.Omega.{arith}
use lib.Dec.{leb}
use lib.ListN.{length, drop}
use Rattle.formula.specs.Formula.{Formula, Name}
use Rattle.lists.specs.Search.{In}
use Rattle.contact.specs.Question.{plain}
use Rattle.contact.specs.Numbering.{different_atoms}
use Rattle.lists.specs.Buffer.{over}
use Rattle.plan.specs.Words.{Plan, words_of}
use Rattle.plan.specs.Plans.{plans_of}
use Rattle.plan.proofs.Claims.{given_exactly, given_words}
use Rattle.table.specs.Sheet.{Text}
use Rattle.table.specs.Store.{table_of, rules_of}
use Rattle.table.specs.Rules.{CanStand}
use Rattle.table.specs.Calls.{formulas_of, FromUs, judge_add, if_added, add_rules, judge_withdraw, without, if_withdrawn, withdraw_rules}
use Rattle.table.specs.Asking.{found_answer, found_words, ask_answer, ask_words}
use Rattle.table.specs.Rows.{AddRow, WithdrawRow, AskRow}
use Rattle.table.specs.Numbers.{add_outcome, withdraw_outcome, ask_outcome}
use Rattle.table.specs.declared.Table.{Table}
use Rattle.table.specs.declared.AddAnswer.{AddAnswer}
use Rattle.table.specs.declared.WithdrawAnswer.{WithdrawAnswer}
use Rattle.table.specs.declared.AskAnswer.TheVariants as AskAnswer
use Rattle.table.specs.declared.Outcome.{Outcome}
use Rattle.table.proofs.Claims.{formulas_one}
use Rattle.supportlog.specs.declared.Form.{Form}
use Rattle.supportlog.specs.declared.LineAnswer.{LineAnswer}
use Rattle.supportlog.specs.declared.LineResult.{LineResult}
use Rattle.supportlog.specs.Answers.{Answer, refused, LineRow, adds, not_added, withdraws, not_withdrawn, plans, no_plan, not_asked, no_form, RunsFrom, end, next, room}
use Rattle.supportlog.specs.Run.{form_of, line_says, answer_by, rules_by, words_by, Runs}
use Rattle.supportlog.specs.Steps.{blank}
use Rattle.supportlog.proofs.LineRows.{form_stands}
use Rattle.supportlog.proofs.LineOnly.{line_only, blank_size}

-- ---- what a refused line leaves

module _ {k c : ℕ} where
  add_keeps : {A : Type 0} (a : AddAnswer) (x y : A) → line_says LineAnswer.Added (add_outcome a) ≡ LineAnswer.Refused k c → if_added a x y ≡ y
  add_keeps AddAnswer.Added x y e = absurd (let z : ◌≡◌ {A = ℕ} 0 1 = cc in omega arith)
  add_keeps AddAnswer.TooLong x y e = refl
  add_keeps AddAnswer.NoToken x y e = refl
  add_keeps (AddAnswer.ForeignByte i) x y e = refl
  add_keeps (AddAnswer.LongName i) x y e = refl
  add_keeps (AddAnswer.Measured i) x y e = refl
  add_keeps (AddAnswer.GrammarAt i) x y e = refl
  add_keeps AddAnswer.TableFull x y e = refl
  add_keeps (AddAnswer.TooManyNames i) x y e = refl
  add_keeps AddAnswer.TooManyAtoms x y e = refl

  withdraw_keeps : {A : Type 0} (a : WithdrawAnswer) (x y : A) → line_says LineAnswer.Withdrawn (withdraw_outcome a) ≡ LineAnswer.Refused k c → if_withdrawn a x y ≡ y
  withdraw_keeps WithdrawAnswer.Withdrawn x y e = absurd (let z : ◌≡◌ {A = ℕ} 0 1 = cc in omega arith)
  withdraw_keeps (WithdrawAnswer.NoSuchRule j) x y e = refl

  found_keeps : (ps : List Plan) (words : List ℕ) → line_says LineAnswer.NoPlan (ask_outcome (found_answer ps (length words))) ≡ LineAnswer.Refused k c → found_words ps words ≡ words
  found_keeps [] words e = refl
  found_keeps (p ∷ ps) words e = go (leb (length (words_of p)) (length words)) e
    where
      go : (b : Bool) → line_says LineAnswer.NoPlan (ask_outcome (cond b (AskAnswer.Plan (length (words_of p))) (AskAnswer.ShortBuffer (length (words_of p))))) ≡ LineAnswer.Refused k c
          → cond b (over (words_of p) words) words ≡ words
      go true h = absurd (let z : ◌≡◌ {A = ℕ} 0 1 = cc in omega arith)
      go false h = refl

  ask_keeps : (rs : List Text) (words : List ℕ) → line_says LineAnswer.NoPlan (ask_outcome (ask_answer plain rs (length words))) ≡ LineAnswer.Refused k c → ask_words plain rs words ≡ words
  unfolding ask_answer ask_words
  ask_keeps [] words e = refl
  ask_keeps (s ∷ rs) words e = found_keeps (plans_of plain (formulas_of (s ∷ rs))) words e

  form_keeps : (f : Form) (rs : List Text) (l : Text) (words : List ℕ) → answer_by f rs l (length words) ≡ LineAnswer.Refused k c → (rules_by f rs l ≡ rs) × (words_by f rs words ≡ words)
  unfolding add_rules withdraw_rules
  form_keeps Form.Add rs l words e = (add_keeps (judge_add rs (drop 1 l)) (rs ++ drop 1 l ∷ []) rs e, refl)
  form_keeps (Form.Withdraw j) rs l words e = (withdraw_keeps (judge_withdraw rs j) (without rs (j - 1)) rs e, refl)
  form_keeps Form.Ask rs l words e = (refl, ask_keeps rs words e)
  form_keeps Form.Other rs l words e = (refl, refl)

  pub refused_keeps : {t : Table} {l : Text} {words : List ℕ} {r : LineResult} {exit : List ℕ} → FromUs t → Runs t l words r exit → r.answer ≡ LineAnswer.Refused k c
      → (r.table ≡ t) × (exit ≡ words)
  refused_keeps {t} {l} {words} from_us runs e =
      let kept = form_keeps (form_of l) (rules_of t) l words (sym runs.answer ∙ e) in
      (runs.table ∙ ap table_of kept.0 ∙ sym from_us.same, runs.left ∙ kept.1)

-- ---- 12 never comes

-- the numbers of the other refusals
add_number : {rs : List Text} {s : Text} (o : Outcome) → AddRow rs s o → {k p : ℕ} → o ≡ Outcome.Refused k p → k ≤ 9
add_number o (AddRow.long h) {k} e = let z : 2 ≡ k = cc in omega arith
add_number o (AddRow.blank h) {k} e = let z : 1 ≡ k = cc in omega arith
add_number o (AddRow.foreign h) {k} e = let z : 3 ≡ k = cc in omega arith
add_number o (AddRow.name_long h) {k} e = let z : 4 ≡ k = cc in omega arith
add_number o (AddRow.measured h) {k} e = let z : 5 ≡ k = cc in omega arith
add_number o (AddRow.grammar h) {k} e = let z : 6 ≡ k = cc in omega arith
add_number o (AddRow.full h l) {k} e = let z : 9 ≡ k = cc in omega arith
add_number o (AddRow.ninth h are l n) {k} e = let z : 7 ≡ k = cc in omega arith
add_number o (AddRow.many are l n m) {k} e = let z : 8 ≡ k = cc in omega arith
add_number o (AddRow.stands are l n m) {k} e = absurd (let z : ◌≡◌ {A = ℕ} 0 1 = cc in omega arith)

withdraw_number : {rs : List Text} {j : ℕ} (o : Outcome) → WithdrawRow rs j o → {k p : ℕ} → o ≡ Outcome.Refused k p → k ≡ 10
withdraw_number o (WithdrawRow.none h) {k} e = let z : 10 ≡ k = cc in omega arith
withdraw_number o (WithdrawRow.taken a b) {k} e = absurd (let z : ◌≡◌ {A = ℕ} 0 1 = cc in omega arith)

ask_number : {rs : List Text} → CanStand rs → (o : Outcome) → AskRow plain rs room o → {k p : ℕ} → o ≡ Outcome.Refused k p → k ≡ 11
ask_number stand o (AskRow.none h) {k} e = let z : 11 ≡ k = cc in omega arith
ask_number stand o (AskRow.without some are never) {k} e = absurd (let z : ◌≡◌ {A = ℕ} 0 1 = cc in omega arith)
ask_number {rs} stand o (AskRow.short {fs} {p} some are g l) {k} e =
    let few : length (different_atoms fs) ≤ 16 = subst (λ (gs : List (Formula Name)). length (different_atoms gs) ≤ 16) (formulas_one rs stand.formulas fs stand.rules are) stand.atoms in
    absurd (omega (arith, l, given_words fs few p ((given_exactly plain fs p).1 g)))
ask_number stand o (AskRow.given some are g l) {k} e = absurd (let z : ◌≡◌ {A = ℕ} 0 1 = cc in omega arith)

row_room : {rs : List Text} {l : Text} {a : Answer} {ss : List Text} → CanStand rs → LineRow rs l a ss → {c : ℕ} → a ≡ refused 12 c → ⊥
row_room stand (adds is row) e = let z : ◌≡◌ {A = ℕ} 0 1 = cc in omega arith
row_room stand (not_added {k = k} is row) e = let z : k ≡ 12 = cc in omega (arith, z, add_number _ row refl)
row_room stand (withdraws is row out) e = let z : ◌≡◌ {A = ℕ} 0 1 = cc in omega arith
row_room stand (not_withdrawn {n = n} is row) e = let z : n ≡ 12 = cc in omega (arith, z, withdraw_number _ row refl)
row_room stand (plans is row are given) e = let z : ◌≡◌ {A = ℕ} 0 1 = cc in omega arith
row_room stand (no_plan is row) e = let z : ◌≡◌ {A = ℕ} 0 1 = cc in omega arith
row_room stand (not_asked {k = k} is row) e = let z : k ≡ 12 = cc in omega (arith, z, ask_number stand _ row refl)
row_room stand (no_form none) e = let z : ◌≡◌ {A = ℕ} 19 12 = cc in omega arith

pub run_room : {rs ls : List Text} {answers : List Answer} {ts : List Text} → CanStand rs → RunsFrom rs ls answers ts → {c : ℕ} → In (refused 12 c) answers → ⊥
run_room stand (end {rs = rs}) {c = c} none = elim none [ ]
run_room stand (next row rest) In.here = row_room stand row refl
run_room {rs} stand (next {l = l} row rest) (In.next there) =
    run_room (subst CanStand (sym (line_only rs l blank stand blank_size _ _ row).1) (form_stands (form_of l) rs l stand)) rest there
