-- What each call on the table gives as a line's answer, and a line by its form. Assumes nothing.
use mathlib.Core.Path.{◌≡◌, refl, sym, ap, subst, ◌∙◌}
use mathlib.Core.List.{List, [], ◌∷◌}
use Prim.Native.Nat.{ℕ, ◌-◌}
use native.Mathlib.Omega.{arith}
use lib.ListN.{length, take, drop, length-drop}
use lib.Seq.{take_all}
use types.Run.{OneOf, miss}
use denote.Enum.Declared.{tag_of}
use Rattle.contact.specs.Question.{plain}
use Rattle.table.specs.Sheet.{Text}
use Rattle.table.specs.Store.{rules_of}
use Rattle.table.specs.Calls.{added, withdrawn, FromUs, Adds, Withdraws}
use Rattle.table.specs.Asking.{asked, Asks}
use Rattle.table.specs.Numbers.{add_outcome, withdraw_outcome, ask_outcome}
use Rattle.table.specs.declared.Table.{Table}
use Rattle.table.specs.declared.AddResult.{AddResult}
use Rattle.table.specs.declared.WithdrawResult.{WithdrawResult}
use Rattle.table.specs.declared.AskResult.{AskResult}
use Rattle.table.specs.declared.Outcome.{Outcome}
use Rattle.table.specs.contracts.Outcome.{the_type as outcome-type}
use Rattle.supportlog.specs.declared.Form.{Form}
use Rattle.supportlog.specs.declared.LineAnswer.{LineAnswer}
use Rattle.supportlog.specs.declared.LineResult.{LineResult}
use Rattle.supportlog.specs.Run.{form_of, line_says, RunsAs, Runs}

-- an outcome that is no plan, not "no plan" and no refusal is what is done
abbrev others : List ℕ
others = 0 ∷ 3 ∷ 4 ∷ 5 ∷ 6 ∷ 7 ∷ 8 ∷ 9 ∷ 10 ∷ []

pub told_done : (done : LineAnswer) (o : Outcome) → OneOf others (tag_of outcome-type o) → done ≡ line_says done o
told_done done Outcome.Done h = refl
told_done done (Outcome.Plan n) h = absurd (miss others 1 tt h)
told_done done Outcome.NoPlan h = absurd (miss others 2 tt h)
told_done done Outcome.Yes h = refl
told_done done (Outcome.Unmet k) h = refl
told_done done (Outcome.Text n) h = refl
told_done done (Outcome.Tree n) h = refl
told_done done Outcome.Closed h = refl
told_done done Outcome.AsDrawn h = refl
told_done done Outcome.No h = refl
told_done done (Outcome.Clash n) h = refl
told_done done (Outcome.Refused k c) h = absurd (miss others 11 tt h)
told_done done (Outcome.RefusedLine k l p) h = absurd (miss others 12 tt h)

-- what stands after the first byte
pub tail_is : (l : Text) → take (length l - 1) (drop 1 l) ≡ drop 1 l
tail_is l = take_all (length l - 1) (drop 1 l) (omega (arith, length-drop 1 l))

abbrev result_with : Table → LineAnswer → LineResult
result_with t a = record { table = t; answer = a }

pub added_runs : (t : Table) (l : Text) (r : AddResult) (said : Outcome) (a : LineAnswer) → Adds t (take (length l - 1) (drop 1 l)) r
    → said ≡ add_outcome r.answer → a ≡ line_says LineAnswer.Added said → RunsAs Form.Add t l [] (result_with r.table a) []
unfolding added
added_runs t l r said a h f g =
    let e : r ≡ added (rules_of t) (drop 1 l) = h.result ∙ ap (added (rules_of t)) (tail_is l) in
    record {
      answer = g ∙ ap (line_says LineAnswer.Added) (f ∙ ap (λ (x : AddResult). add_outcome x.answer) e);
      table = ap (λ (x : AddResult). x.table) e;
      left = refl;
      from_us = h.from_us;
    }

pub withdrawn_runs : (t : Table) (k : ℕ) (r : WithdrawResult) (said : Outcome) (a : LineAnswer) → Withdraws t k r
    → said ≡ withdraw_outcome r.answer → a ≡ line_says LineAnswer.Withdrawn said → RunsAs (Form.Withdraw k) t [] [] (result_with r.table a) []
unfolding withdrawn
withdrawn_runs t k r said a h f g = record {
  answer = g ∙ ap (line_says LineAnswer.Withdrawn) (f ∙ ap (λ (x : WithdrawResult). withdraw_outcome x.answer) h.result);
  table = ap (λ (x : WithdrawResult). x.table) h.result;
  left = refl;
  from_us = h.from_us;
}

pub asked_runs : (t : Table) (words : List ℕ) (r : AskResult) (exit : List ℕ) (said : Outcome) (a : LineAnswer) → Asks plain t words r exit
    → said ≡ ask_outcome r.answer → a ≡ line_says LineAnswer.NoPlan said → RunsAs Form.Ask t [] words (result_with r.table a) exit
unfolding asked
asked_runs t words r exit said a h f g = record {
  answer = g ∙ ap (line_says LineAnswer.NoPlan) (f ∙ ap (λ (x : AskResult). ask_outcome x.answer) h.result);
  table = ap (λ (x : AskResult). x.table) h.result;
  left = h.words;
  from_us = h.from_us;
}

-- a line by its form
module _ (t : Table) (l : Text) (words : List ℕ) (r : LineResult) (f : Form) (is : f ≡ form_of l) where
  by : {g : Form} {exit : List ℕ} → f ≡ g → RunsAs g t l words r exit → Runs t l words r exit
  by {g} {exit} e h = subst (λ (x : Form). RunsAs x t l words r exit) (sym e ∙ is) h

  pub as_add : f ≡ Form.Add → RunsAs Form.Add t l [] r [] → Runs t l words r words
  as_add e h = by e (record { answer = h.answer; table = h.table; left = refl; from_us = h.from_us })

  pub as_withdraw : (k : ℕ) → f ≡ Form.Withdraw k → RunsAs (Form.Withdraw k) t [] [] r [] → Runs t l words r words
  as_withdraw k e h = by e (record { answer = h.answer; table = h.table; left = refl; from_us = h.from_us })

  pub as_ask : (exit : List ℕ) → f ≡ Form.Ask → RunsAs Form.Ask t [] words r exit → Runs t l words r exit
  as_ask exit e h = by e (record { answer = h.answer; table = h.table; left = h.left; from_us = h.from_us })

  pub as_other : f ≡ Form.Other → FromUs t → r ≡ result_with t (LineAnswer.Refused 19 0) → Runs t l words r words
  as_other e v x = by e (record {
    answer = ap (λ (y : LineResult). y.answer) x;
    table = ap (λ (y : LineResult). y.table) x ∙ v.same;
    left = refl;
    from_us = subst (λ (y : LineResult). FromUs y.table) (sym x) v;
  })
