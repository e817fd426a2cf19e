-- The rules that stand after a run of lines are those that stand after the calls which the lines make: a line of none of the forms makes none, and
-- leaves the rules as they were. Assumes nothing.
use mathlib.Core.Path.{◌≡◌, refl, sym, subst, ◌∙◌}
use mathlib.Core.List.{List, [], ◌∷◌}
use Prim.Native.Nat.{ℕ}
use native.Mathlib.Omega.{arith}
use lib.ListN.{drop}
use Rattle.table.specs.Sheet.{Text}
use Rattle.table.specs.Stands.{Call, StandsAfter, StandsFrom}
use Rattle.table.specs.declared.Outcome.TheVariants as Outcome
use Rattle.supportlog.specs.declared.Form.{Form}
use Rattle.supportlog.specs.Lines.{Wanted, add, withdraw, ask, IsLine}
use Rattle.supportlog.specs.Answers.{Answer, LineRow, adds, not_added, withdraws, not_withdrawn, plans, no_plan, not_asked, no_form, RunsFrom, end, next, Makes, makes_add, makes_withdraw, makes_ask, CallsOf, no_line, call, no_call}
use Rattle.supportlog.specs.Run.{form_of}
use Rattle.supportlog.specs.Steps.{blank}
use Rattle.supportlog.proofs.Forms.{form_for, form_only, FormSays, form_says}
use Rattle.supportlog.proofs.LineOnly.{tail_of, blank_size}

-- a line has one form only
same_form : (l : Text) (w v : Wanted) → IsLine l w → IsLine l v → form_for w ≡ form_for v → w ≡ v
same_form l (add s) (add t) h k e = let z : s ≡ t = sym (tail_of l s h) ∙ tail_of l t k in cc
same_form l (withdraw k) (withdraw j) h i e = let z : k ≡ j = cc in cc
same_form l ask ask h k e = refl
same_form l (add s) (withdraw k) h i e = absurd (let z : ◌≡◌ {A = ℕ} 0 1 = cc in omega arith)
same_form l (add s) ask h i e = absurd (let z : ◌≡◌ {A = ℕ} 0 1 = cc in omega arith)
same_form l (withdraw k) (add s) h i e = absurd (let z : ◌≡◌ {A = ℕ} 0 1 = cc in omega arith)
same_form l (withdraw k) ask h i e = absurd (let z : ◌≡◌ {A = ℕ} 0 1 = cc in omega arith)
same_form l ask (add s) h i e = absurd (let z : ◌≡◌ {A = ℕ} 0 1 = cc in omega arith)
same_form l ask (withdraw k) h i e = absurd (let z : ◌≡◌ {A = ℕ} 0 1 = cc in omega arith)

pub line_one : (l : Text) (w v : Wanted) → IsLine l w → IsLine l v → w ≡ v
line_one l w v h k = same_form l w v h k (sym (form_only l w h) ∙ form_only l v k)

-- a call that is made of what is wanted
module _ {rs ss : List Text} where
  by_add : (s : Text) (w : Wanted) (c : Call) → Makes w c → w ≡ add s → StandsAfter rs (Call.add s) ss → StandsAfter rs c ss
  by_add s w c (makes_add {s = t}) e h = let z : s ≡ t = cc in subst (λ (x : Text). StandsAfter rs (Call.add x) ss) z h
  by_add s w c (makes_withdraw {k}) e h = absurd (let z : ◌≡◌ {A = ℕ} 0 1 = cc in omega arith)
  by_add s w c (makes_ask size) e h = absurd (let z : ◌≡◌ {A = ℕ} 0 1 = cc in omega arith)

  by_withdraw : (k : ℕ) (w : Wanted) (c : Call) → Makes w c → w ≡ withdraw k → StandsAfter rs (Call.withdraw k) ss → StandsAfter rs c ss
  by_withdraw k w c (makes_add {s = t}) e h = absurd (let z : ◌≡◌ {A = ℕ} 0 1 = cc in omega arith)
  by_withdraw k w c (makes_withdraw {k = j}) e h = let z : k ≡ j = cc in subst (λ (x : ℕ). StandsAfter rs (Call.withdraw x) ss) z h
  by_withdraw k w c (makes_ask size) e h = absurd (let z : ◌≡◌ {A = ℕ} 0 1 = cc in omega arith)

by_ask : {rs : List Text} (w : Wanted) (c : Call) → Makes w c → w ≡ ask → StandsAfter rs c rs
by_ask w c (makes_add {s = t}) e = absurd (let z : ◌≡◌ {A = ℕ} 0 1 = cc in omega arith)
by_ask w c (makes_withdraw {k}) e = absurd (let z : ◌≡◌ {A = ℕ} 0 1 = cc in omega arith)
by_ask w c (makes_ask size) e = StandsAfter.asked

row_call : {rs : List Text} {l : Text} {a : Answer} {ss : List Text} {w : Wanted} {c : Call} → LineRow rs l a ss → IsLine l w → Makes w c → StandsAfter rs c ss
row_call {l = l} (adds {s} is row) h m = by_add s _ _ m (line_one l _ (add s) h is) (StandsAfter.added row)
row_call {l = l} (not_added {s} {k} {p} is row) h m =
    by_add s _ _ m (line_one l _ (add s) h is)
    (StandsAfter.not_added (record { outcome = Outcome.Refused k p; row = row; not_done = λ e. let z : ◌≡◌ {A = ℕ} 0 1 = cc in omega arith }))
row_call {l = l} (withdraws {k} is row out) h m = by_withdraw k _ _ m (line_one l _ (withdraw k) h is) (StandsAfter.withdrawn row out)
row_call {l = l} (not_withdrawn {k} {n} {c} is row) h m =
    by_withdraw k _ _ m (line_one l _ (withdraw k) h is)
    (StandsAfter.not_withdrawn (record { outcome = Outcome.Refused n c; row = row; not_done = λ e. let z : ◌≡◌ {A = ℕ} 0 1 = cc in omega arith }))
row_call {l = l} (plans is row are given) h m = by_ask _ _ m (line_one l _ ask h is)
row_call {l = l} (no_plan is row) h m = by_ask _ _ m (line_one l _ ask h is)
row_call {l = l} (not_asked is row) h m = by_ask _ _ m (line_one l _ ask h is)
row_call (no_form none) h m = absurd (none _ h)

row_none : {rs : List Text} {l : Text} {a : Answer} {ss : List Text} → LineRow rs l a ss → ((w : Wanted) → IsLine l w → ⊥) → ss ≡ rs
row_none (adds is row) n = absurd (n _ is)
row_none (not_added is row) n = refl
row_none (withdraws is row out) n = absurd (n _ is)
row_none (not_withdrawn is row) n = refl
row_none (plans is row are given) n = refl
row_none (no_plan is row) n = refl
row_none (not_asked is row) n = refl
row_none (no_form none) n = refl

pub run_stands : {rs ls : List Text} {answers : List Answer} {ts : List Text} {cs : List Call} → RunsFrom rs ls answers ts → CallsOf ls cs → StandsFrom rs cs ts
run_stands end no_line = StandsFrom.none
run_stands (next row rest) (call is m more) = StandsFrom.next (row_call row is m) (run_stands rest more)
run_stands {ts = ts} {cs = cs} (next row rest) (no_call n more) = subst (λ (rs : List Text). StandsFrom rs cs ts) (row_none row n) (run_stands rest more)

-- every list of lines makes some list of calls
by_form : (l : Text) (ls : List Text) (f : Form) → FormSays l f → ((cs : List Call) × CallsOf ls cs) → (cs : List Call) × CallsOf (l ∷ ls) cs
by_form l ls Form.Add is more = (Call.add (drop 1 l) ∷ more.0, call is makes_add more.1)
by_form l ls (Form.Withdraw k) is more = (Call.withdraw k ∷ more.0, call is makes_withdraw more.1)
by_form l ls Form.Ask is more = (Call.ask _ blank ∷ more.0, call is (makes_ask blank_size) more.1)
by_form l ls Form.Other is more = (more.0, no_call is more.1)

pub calls_some : (ls : List Text) → (cs : List Call) × CallsOf ls cs
calls_some [] = ([], no_line)
calls_some (l ∷ ls) = by_form l ls (form_of l) (form_says l) (calls_some ls)
