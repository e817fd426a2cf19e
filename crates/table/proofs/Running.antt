-- Whatever list of calls was made, the table is that of the standing rules alone: each call maps the table of a list to the table of
-- the list after it, and a list that can stand is added text by text with no refusal. Assumes nothing.
use Prim.Native.Nat.{ℕ}
use mathlib.Core.Bool.{Bool}
use mathlib.Core.Path.{◌≡◌, refl, sym, ap, subst, ◌∙◌}
use mathlib.Core.Logic.{◌↔◌}
use mathlib.Core.List.{List, [], ◌∷◌, ◌++◌, append_assoc, append-nil}
use Rattle.table.specs.declared.Table.{Table}
use Rattle.table.specs.declared.AddAnswer.{AddAnswer}
use Rattle.table.specs.declared.AddResult.{AddResult}
use Rattle.table.specs.declared.WithdrawResult.{WithdrawResult}
use Rattle.table.specs.declared.LoadResult.{LoadResult}
use Rattle.table.specs.declared.AskResult.{AskResult}
use Rattle.table.specs.declared.JudgeResult.{JudgeResult}
use Rattle.table.specs.declared.PrintResult.{PrintResult}
use Rattle.table.specs.Store.{table_of, rules_of}
use Rattle.table.specs.Sheet.{Text}
use Rattle.table.specs.Calls.{FromUs, Adds, Withdraws, Loads, judge_add, added, withdrawn, loaded}
use Rattle.table.specs.Rules.{CanStand}
use Rattle.contact.specs.Question.{Question}
use Rattle.table.specs.Asking.{Asks, Judges}
use Rattle.table.specs.Explaining.{Explains, Checks}
use Rattle.table.specs.declared.ExplainResult.{ExplainResult}
use Rattle.table.specs.declared.CheckResult.{CheckResult}
use Rattle.table.specs.Still.{StillDoes}
use Rattle.table.specs.declared.StillResult.{StillResult}
use Rattle.table.specs.Clashing.{GivesClash}
use Rattle.table.specs.declared.ClashResult.{ClashResult}
use Rattle.table.specs.Printing.{Prints}
use Rattle.table.specs.Stands.{Call, add, withdraw, load, ask, judge, print, explain, check, still, clash, adds}
use Rattle.table.specs.Runs.{step, run_from, run, after, standing_from, standing, Faithful}
use Rattle.table.proofs.Stored.{rules_table, from_us_table}
use Rattle.table.proofs.Standing.{stand_none, stand_first, stand_added, stand_add, stand_withdraw, stand_load, added_taken}

-- a call of the code is a step
pub by_add : (t : Table) (s : Text) (r : AddResult) → Adds t s r → r.table ≡ step t (add s)
unfolding step
by_add t s r h = ap (λ (x : AddResult). x.table) h.result

pub by_withdraw : (t : Table) (k : ℕ) (r : WithdrawResult) → Withdraws t k r → r.table ≡ step t (withdraw k)
unfolding step
by_withdraw t k r h = ap (λ (x : WithdrawResult). x.table) h.result

pub by_load : (t : Table) (f : Text) (r : LoadResult) → Loads t f r → r.table ≡ step t (load f)
unfolding step
by_load t f r h = ap (λ (x : LoadResult). x.table) h.result

pub by_ask : (q : Question) (t : Table) (buffer : List ℕ) (r : AskResult) (exit : List ℕ) → Asks q t buffer r exit → r.table ≡ step t (ask q buffer)
unfolding step
by_ask q t buffer r exit h = h.same

pub by_judge : (t : Table) (words : List ℕ) (r : JudgeResult) → Judges t words r → r.table ≡ step t (judge words)
unfolding step
by_judge t words r h = h.same

pub by_print : (t : Table) (k : ℕ) (buffer : List ℕ) (r : PrintResult) (exit : List ℕ) → Prints t k buffer r exit → r.table ≡ step t (print k buffer)
unfolding step
by_print t k buffer r exit h = h.same

pub by_explain : (t : Table) (buffer : List ℕ) (r : ExplainResult) (exit : List ℕ) → Explains t buffer r exit → r.table ≡ step t (explain buffer)
unfolding step
by_explain t buffer r exit h = h.same

pub by_check : (t : Table) (words : List ℕ) (r : CheckResult) → Checks t words r → r.table ≡ step t (check words)
unfolding step
by_check t words r h = h.same

pub by_still : (t : Table) (words : List ℕ) (r : StillResult) → StillDoes t words r → r.table ≡ step t (still words)
unfolding step
by_still t words r h = h.same

pub by_clash : (t : Table) (places : List Bool) (r : ClashResult) (exit : List Bool) → GivesClash t places r exit → r.table ≡ step t (clash places)
unfolding step
by_clash t places r exit h = h.same

-- one call, from the table of a list
pub step_table : (rs : List Text) (c : Call) → step (table_of rs) c ≡ table_of (after rs c)
unfolding step after added withdrawn loaded
step_table rs (add s) = rw rules_table
step_table rs (withdraw k) = rw rules_table
step_table rs (load f) = rw rules_table
step_table rs (ask q buffer) = refl
step_table rs (judge words) = refl
step_table rs (print k buffer) = refl
step_table rs (explain buffer) = refl
step_table rs (check words) = refl
step_table rs (still words) = refl
step_table rs (clash places) = refl

pub stand_after : (rs : List Text) (c : Call) → CanStand rs → CanStand (after rs c)
unfolding after
stand_after rs (add s) h = stand_add rs s h
stand_after rs (withdraw k) h = stand_withdraw rs k h
stand_after rs (load f) h = stand_load rs f h
stand_after rs (ask q buffer) h = h
stand_after rs (judge words) h = h
stand_after rs (print k buffer) h = h
stand_after rs (explain buffer) h = h
stand_after rs (check words) h = h
stand_after rs (still words) h = h
stand_after rs (clash places) h = h

-- a list of calls
run_table : (cs : List Call) (rs : List Text) → run_from (table_of rs) cs ≡ table_of (standing_from rs cs)
unfolding run_from standing_from
run_table [] rs = refl
run_table (c ∷ cs) rs = rw step_table (run_table cs (after rs c))

stand_run : (cs : List Call) (rs : List Text) → CanStand rs → CanStand (standing_from rs cs)
unfolding standing_from
stand_run [] rs h = h
stand_run (c ∷ cs) rs h = stand_run cs (after rs c) (stand_after rs c h)

-- a list that can stand is added without a refusal
pub next_added : (rs : List Text) (s : Text) (ss : List Text) → CanStand (rs ++ s ∷ ss) → judge_add rs s ≡ AddAnswer.Added
next_added rs s ss h = stand_added rs s (stand_first (rs ++ s ∷ []) ss (subst CanStand (sym (append_assoc rs (s ∷ []) ss)) h))

after_next : (rs : List Text) (s : Text) → judge_add rs s ≡ AddAnswer.Added → after rs (add s) ≡ rs ++ s ∷ []
unfolding after
after_next rs s e = added_taken rs s e

adds_standing : (ss rs : List Text) → CanStand (rs ++ ss) → standing_from rs (adds ss) ≡ rs ++ ss
unfolding standing_from adds
adds_standing [] rs h = sym (append-nil rs)
adds_standing (s ∷ ss) rs h =
    ap (λ (x : List Text). standing_from x (adds ss)) (after_next rs s (next_added rs s ss h))
    ∙ adds_standing ss (rs ++ s ∷ []) (rw append_assoc h)
    ∙ append_assoc rs (s ∷ []) ss

pub adds_stand : (ss : List Text) → CanStand ss → standing (adds ss) ≡ ss
unfolding standing
adds_stand ss h = adds_standing ss [] h

pub faithful : (cs : List Call) → Faithful cs
unfolding run standing
faithful cs =
    let h : CanStand (standing_from [] cs) = stand_run cs [] stand_none in
    record {
      from_us = subst FromUs (sym (run_table cs [])) (from_us_table _ h);
      holds = ap rules_of (run_table cs []) ∙ rules_table (standing_from [] cs);
      table = run_table cs [] ∙ ap table_of (sym (adds_standing (standing_from [] cs) [] h)) ∙ sym (run_table (adds (standing cs)) []);
    }

-- the tables from us are those after a list of calls
pub from_us_runs : (t : Table) → FromUs t ↔ ((cs : List Call) × (t ≡ run cs))
unfolding run
from_us_runs t = (
  λ v. (adds (rules_of t), v.same ∙ ap table_of (sym (adds_standing (rules_of t) [] v.standing)) ∙ sym (run_table (adds (rules_of t)) [])),
  λ r. subst FromUs (sym r.1) (faithful r.0).from_us,
)
