-- The rules that stand by the rows of the table of calls are those that are computed, so that every list of calls has exactly one such
-- list: each call is judged by its row alone, and the list before it can stand. Assumes nothing.
use Prim.Native.Nat.{ℕ, ◌-◌, ◌≤◌, ◌<◌}
use mathlib.Core.Path.{◌≡◌, refl, sym, ap, subst, ◌∙◌}
use mathlib.Core.Logic.{◌⊎◌, inl, inr, ⊎_elim}
use mathlib.Core.List.{List, [], ◌∷◌, ◌++◌}
use native.Mathlib.Omega.{arith}
use lib.ListN.{length, get_or}
use Rattle.table.specs.declared.AddAnswer.{AddAnswer}
use Rattle.table.specs.declared.WithdrawAnswer.{WithdrawAnswer}
use Rattle.table.specs.declared.LoadAnswer.{LoadAnswer}
use Rattle.table.specs.declared.Outcome.{Outcome}
use Rattle.table.specs.Sheet.{Text, lines_of, filled}
use Rattle.table.specs.Calls.{judge_add, judge_withdraw, without, if_withdrawn, withdraw_rules, judge_load, if_loaded, load_rules}
use Rattle.table.specs.Rules.{CanStand}
use Rattle.table.specs.Numbers.{add_outcome, withdraw_outcome, load_outcome}
use Rattle.table.specs.Rows.{AddRow, WithdrawRow, LoadRow}
use Rattle.table.specs.Stands.{Call, add, withdraw, load, ask, judge, print, explain, check, still, clash, IsRefused, TakesOut, StandsAfter, StandsFrom, Stands}
use Rattle.table.specs.Runs.{after, standing_from, standing}
use Rattle.table.proofs.Standing.{not_withdrawn, not_loaded, added_or, added_taken, added_refused, stand_none}
use Rattle.table.proofs.Results.{withdraw_good}
use Rattle.table.proofs.Rows.{add_row, add_row_only, withdraw_row, withdraw_row_only}
use Rattle.table.proofs.LoadRows.{load_row, load_row_only, load_done}
use Rattle.table.proofs.Running.{stand_after, faithful}
use Rattle.table.proofs.PrintRows.{kth_is}

-- ---- add

-- only what is added is done
pub done_added : (a : AddAnswer) → add_outcome a ≡ Outcome.Done → a ≡ AddAnswer.Added
done_added AddAnswer.Added e = refl
done_added AddAnswer.TooLong e = absurd (let z : ◌≡◌ {A = ℕ} 0 1 = cc in omega arith)
done_added AddAnswer.NoToken e = absurd (let z : ◌≡◌ {A = ℕ} 0 1 = cc in omega arith)
done_added (AddAnswer.ForeignByte i) e = absurd (let z : ◌≡◌ {A = ℕ} 0 1 = cc in omega arith)
done_added (AddAnswer.LongName i) e = absurd (let z : ◌≡◌ {A = ℕ} 0 1 = cc in omega arith)
done_added (AddAnswer.Measured i) e = absurd (let z : ◌≡◌ {A = ℕ} 0 1 = cc in omega arith)
done_added (AddAnswer.GrammarAt i) e = absurd (let z : ◌≡◌ {A = ℕ} 0 1 = cc in omega arith)
done_added AddAnswer.TableFull e = absurd (let z : ◌≡◌ {A = ℕ} 0 1 = cc in omega arith)
done_added (AddAnswer.TooManyNames i) e = absurd (let z : ◌≡◌ {A = ℕ} 0 1 = cc in omega arith)
done_added AddAnswer.TooManyAtoms e = absurd (let z : ◌≡◌ {A = ℕ} 0 1 = cc in omega arith)

module _ (rs : List Text) (s : Text) (h : CanStand rs) where
  add_stands : StandsAfter rs (add s) (after rs (add s))
  unfolding after
  add_stands =
      ⊎_elim
      (λ e. subst (StandsAfter rs (add s)) (sym (added_taken rs s e)) (StandsAfter.added (subst (AddRow rs s) (ap add_outcome e) (add_row rs s h))))
      (λ n. subst (StandsAfter rs (add s)) (sym (added_refused rs s n))
      (StandsAfter.not_added (record { outcome = add_outcome (judge_add rs s); row = add_row rs s h; not_done = λ e. n (done_added (judge_add rs s) e) })))
      (added_or (judge_add rs s))

  add_done : AddRow rs s Outcome.Done → after rs (add s) ≡ rs ++ s ∷ []
  unfolding after
  add_done r = added_taken rs s (done_added (judge_add rs s) (sym (add_row_only rs s h Outcome.Done r)))

  add_left : IsRefused (AddRow rs s) → after rs (add s) ≡ rs
  unfolding after
  add_left r = added_refused rs s (λ e. r.not_done (add_row_only rs s h r.outcome r.row ∙ ap add_outcome e))

-- ---- withdraw

-- the list without the one behind `before`
without_at : (before : List Text) (s : Text) (later : List Text) → without (before ++ s ∷ later) (length before) ≡ before ++ later
unfolding without
without_at [] s later = refl
without_at (b ∷ before) s later = ap (λ (l : List Text). b ∷ l) (without_at before s later)

withdrawn_or : (a : WithdrawAnswer) → (a ≡ WithdrawAnswer.Withdrawn) ⊎ (withdraw_outcome a ≡ Outcome.Done → ⊥)
withdrawn_or WithdrawAnswer.Withdrawn = inl refl
withdrawn_or (WithdrawAnswer.NoSuchRule k) = inr (λ e. let z : ◌≡◌ {A = ℕ} 0 1 = cc in omega arith)

in_range : (rs : List Text) (k : ℕ) (o : Outcome) → WithdrawRow rs k o → o ≡ Outcome.Done → (0 < k) × (k ≤ length rs)
in_range rs k o (WithdrawRow.none r) e = absurd (let z : ◌≡◌ {A = ℕ} 0 1 = cc in omega arith)
in_range rs k o (WithdrawRow.taken a b) e = (a, b)

module _ (rs : List Text) (k : ℕ) where
  abbrev Row : Outcome → Type 0
  Row = WithdrawRow rs k

  taken_out : judge_withdraw rs k ≡ WithdrawAnswer.Withdrawn → after rs (withdraw k) ≡ without rs (k - 1)
  unfolding after withdraw_rules
  taken_out e = ap (λ (a : WithdrawAnswer). if_withdrawn a (without rs (k - 1)) rs) e

  left : (withdraw_outcome (judge_withdraw rs k) ≡ Outcome.Done → ⊥) → after rs (withdraw k) ≡ rs
  unfolding after withdraw_rules
  left n = not_withdrawn (judge_withdraw rs k) (without rs (k - 1)) rs (λ e. n (ap withdraw_outcome e))

  -- the k-th, and what stands before and after it
  parted : 0 < k → k ≤ length rs → TakesOut rs k (without rs (k - 1))
  unfolding without kth_is
  parted a b =
      record {
        text = get_or rs (k - 1) [];
        kth = kth_is rs k a b;
        left = refl;
      }

  withdraw_stands : StandsAfter rs (withdraw k) (after rs (withdraw k))
  withdraw_stands =
      ⊎_elim
      (λ e. let row : Row Outcome.Done = subst Row (ap withdraw_outcome e) (withdraw_row rs k) in
      let r = in_range rs k Outcome.Done row refl in
      subst (StandsAfter rs (withdraw k)) (sym (taken_out e))
      (StandsAfter.withdrawn row (parted r.0 r.1)))
      (λ n. subst (StandsAfter rs (withdraw k)) (sym (left n))
      (StandsAfter.not_withdrawn (record { outcome = withdraw_outcome (judge_withdraw rs k); row = withdraw_row rs k; not_done = n })))
      (withdrawn_or (judge_withdraw rs k))

  withdraw_done : (ss : List Text) → Row Outcome.Done → TakesOut rs k ss → after rs (withdraw k) ≡ ss
  withdraw_done ss row out =
      let r = in_range rs k Outcome.Done row refl in
      let h = out.kth in
      let z : k - 1 ≡ length h.before = omega (arith, h.place) in
      taken_out (withdraw_good rs k r.0 r.1)
      ∙ ap (without rs) z
      ∙ ap (λ (l : List Text). without l (length h.before)) h.parts
      ∙ without_at h.before out.text h.later
      ∙ sym out.left

  withdraw_left : IsRefused Row → after rs (withdraw k) ≡ rs
  withdraw_left r = left (λ e. r.not_done (withdraw_row_only rs k r.outcome r.row ∙ e))

-- ---- load

loaded_or : (a : LoadAnswer) → (a ≡ LoadAnswer.Loaded) ⊎ (a ≡ LoadAnswer.Loaded → ⊥)
loaded_or LoadAnswer.Loaded = inl refl
loaded_or LoadAnswer.FileTooLong = inr (λ e. let z : ◌≡◌ {A = ℕ} 0 1 = cc in omega arith)
loaded_or LoadAnswer.AllBlank = inr (λ e. let z : ◌≡◌ {A = ℕ} 0 1 = cc in omega arith)
loaded_or (LoadAnswer.Line n a) = inr (λ e. let z : ◌≡◌ {A = ℕ} 0 1 = cc in omega arith)

module _ (rs : List Text) (f : Text) where
  put_in_place : judge_load f ≡ LoadAnswer.Loaded → after rs (load f) ≡ filled (lines_of f)
  unfolding after load_rules
  put_in_place e = ap (λ (a : LoadAnswer). if_loaded a (filled (lines_of f)) rs) e

  kept : (judge_load f ≡ LoadAnswer.Loaded → ⊥) → after rs (load f) ≡ rs
  unfolding after load_rules
  kept n = not_loaded (judge_load f) (filled (lines_of f)) rs n

  load_stands : StandsAfter rs (load f) (after rs (load f))
  load_stands =
      ⊎_elim
      (λ e. subst (StandsAfter rs (load f)) (sym (put_in_place e)) (StandsAfter.loaded (subst (LoadRow f) (ap load_outcome e) (load_row f))))
      (λ n. subst (StandsAfter rs (load f)) (sym (kept n))
      (StandsAfter.not_loaded (record { outcome = load_outcome (judge_load f); row = load_row f; not_done = λ e. n (load_done f (subst (LoadRow f) e (load_row f))) })))
      (loaded_or (judge_load f))

  load_left : IsRefused (LoadRow f) → after rs (load f) ≡ rs
  load_left r = kept (λ e. r.not_done (load_row_only f r.outcome r.row ∙ ap load_outcome e))

-- ---- lists of calls

after_stands : (rs : List Text) (c : Call) → CanStand rs → StandsAfter rs c (after rs c)
unfolding after
after_stands rs (add s) h = add_stands rs s h
after_stands rs (withdraw k) h = withdraw_stands rs k
after_stands rs (load f) h = load_stands rs f
after_stands rs (ask q buffer) h = StandsAfter.asked
after_stands rs (judge words) h = StandsAfter.judged
after_stands rs (print k buffer) h = StandsAfter.printed
after_stands rs (explain buffer) h = StandsAfter.explained
after_stands rs (check words) h = StandsAfter.checked
after_stands rs (still words) h = StandsAfter.still_done
after_stands rs (clash places) h = StandsAfter.clashed

after_only : (rs : List Text) (c : Call) (ss : List Text) → CanStand rs → StandsAfter rs c ss → after rs c ≡ ss
unfolding after
after_only rs c ss h (StandsAfter.added {s} r) = add_done rs s h r
after_only rs c ss h (StandsAfter.not_added {s} r) = add_left rs s h r
after_only rs c ss h (StandsAfter.withdrawn {k} r out) = withdraw_done rs k ss r out
after_only rs c ss h (StandsAfter.not_withdrawn {k} r) = withdraw_left rs k r
after_only rs c ss h (StandsAfter.loaded {f} r) = put_in_place rs f (load_done f r)
after_only rs c ss h (StandsAfter.not_loaded {f} r) = load_left rs f r
after_only rs c ss h StandsAfter.asked = refl
after_only rs c ss h StandsAfter.judged = refl
after_only rs c ss h StandsAfter.printed = refl
after_only rs c ss h StandsAfter.explained = refl
after_only rs c ss h StandsAfter.checked = refl
after_only rs c ss h StandsAfter.still_done = refl
after_only rs c ss h StandsAfter.clashed = refl

calls_stand : (cs : List Call) (rs : List Text) → CanStand rs → StandsFrom rs cs (standing_from rs cs)
unfolding standing_from
calls_stand [] rs h = StandsFrom.none
calls_stand (c ∷ cs) rs h = StandsFrom.next (after_stands rs c h) (calls_stand cs (after rs c) (stand_after rs c h))

calls_only : (cs : List Call) (rs ts : List Text) → CanStand rs → StandsFrom rs cs ts → ts ≡ standing_from rs cs
unfolding standing_from
calls_only [] rs ts h StandsFrom.none = refl
calls_only (c ∷ cs) rs ts h (StandsFrom.next {ss = ss} r more) =
    let e = after_only rs c ss h r in
    calls_only cs ss ts (subst CanStand e (stand_after rs c h)) more ∙ ap (λ (l : List Text). standing_from l cs) (sym e)

-- the computed list stands
pub standing_stands : (cs : List Call) → Stands cs (standing cs)
unfolding standing
standing_stands cs = calls_stand cs [] stand_none

-- and no other does
pub stands_standing : (cs : List Call) (rs : List Text) → Stands cs rs → rs ≡ standing cs
unfolding standing
stands_standing cs rs h = calls_only cs [] rs stand_none h

-- it can stand
pub stands_within : (cs : List Call) (rs : List Text) → Stands cs rs → CanStand rs
stands_within cs rs h = subst CanStand ((faithful cs).holds ∙ sym (stands_standing cs rs h)) (faithful cs).from_us.standing
