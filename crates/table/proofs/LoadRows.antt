-- Load is answered by the row of the table of calls that applies first, and by no other: the lines before one that is refused are
-- passed, each added behind those before it. Assumes nothing.
use Prim.Native.Nat.{ℕ, suc, ◌+◌, ◌≤◌}
use mathlib.Core.Path.{◌≡◌, refl, sym, ap, subst, subst⁻¹, ◌∙◌}
use mathlib.Core.Logic.{◌⊎◌, inl, inr, ⊎_elim}
use mathlib.Core.Bool.{Bool, true, false, cond, not}
use mathlib.Core.List.{List, [], ◌∷◌, ◌++◌, cons≢nil, append_assoc, append-nil}
use native.Mathlib.Omega.{arith}
use lib.ListN.{length, length-append}
use lib.Dec.{ltb}
use borrow.Author.Tests.{ltb-true, ltb-false}
use Rattle.lists.proofs.Search.{keep_append}
use Rattle.lists.proofs.Truth.{cases}
use Rattle.table.specs.declared.AddAnswer.{AddAnswer}
use Rattle.table.specs.declared.LoadAnswer.{LoadAnswer}
use Rattle.table.specs.Sheet.{Text, lines_of, blank_line, filled}
use Rattle.table.specs.Calls.{judge_add, judge_lines, is_none, judge_load}
use Rattle.table.specs.Rules.{CanStand}
use Rattle.table.specs.declared.Outcome.{Outcome}
use Rattle.table.specs.Numbers.{add_outcome, on_line, load_outcome}
use Rattle.table.specs.Rows.{AddRow, RefusedLine, LoadRow, long, blank, line, loads}
use Rattle.table.proofs.Standing.{NotAdded, added_or, stand_none, stand_first, stand_more, stand_added}
use Rattle.table.proofs.Loading.{judge_blank, judge_added, judge_refused, filled_blank, filled_more, not_none, too_long, all_blank, by_lines}
use Rattle.table.proofs.Rows.{add_row, add_row_only}

-- ---- lines that are not blank

filled_append : (a b : List Text) → filled (a ++ b) ≡ filled a ++ filled b
unfolding filled
filled_append a b = keep_append (λ l. not (blank_line l)) a b

no_lines : filled [] ≡ []
unfolding filled
no_lines = refl

one_blank : (done : List Text) (l : Text) → blank_line l ≡ true → filled (done ++ l ∷ []) ≡ filled done
one_blank done l e = filled_append done (l ∷ []) ∙ ap (λ (ls : List Text). filled done ++ ls) (filled_blank l [] e ∙ no_lines) ∙ append-nil (filled done)

one_filled : (done : List Text) (l : Text) → blank_line l ≡ false → filled (done ++ l ∷ []) ≡ filled done ++ l ∷ []
one_filled done l e = filled_append done (l ∷ []) ∙ ap (λ (ls : List Text). filled done ++ ls) (filled_more l [] e ∙ ap (λ (ls : List Text). l ∷ ls) no_lines)

-- ---- how the lines behind others are judged

-- all of them added, or one refused
abbrev LinesJudged : List Text → List Text → Type 0
LinesJudged done ls =
    ((judge_lines (length done + 1) (filled done) ls ≡ LoadAnswer.Loaded) × CanStand (filled (done ++ ls)))
    ⊎ ((k : ℕ) × (n : ℕ) × (p : ℕ) × (load_outcome (judge_lines (length done + 1) (filled done) ls) ≡ Outcome.RefusedLine k n p) × RefusedLine (done ++ ls) k n p)

-- the line l taken over to those that are done
over : (done : List Text) (l : Text) (ls : List Text) → judge_lines (length done + 1) (filled done) (l ∷ ls) ≡ judge_lines (length (done ++ l ∷ []) + 1) (filled (done ++ l ∷ [])) ls
    → LinesJudged (done ++ l ∷ []) ls → LinesJudged done (l ∷ ls)
over done l ls e =
    ⊎_elim
    (λ r. inl (e ∙ r.0, subst (λ (x : List Text). CanStand (filled x)) (append_assoc done (l ∷ []) ls) r.1))
    (λ r. inr (r.0, r.1, r.2, ap load_outcome e ∙ r.3, subst (λ (x : List Text). RefusedLine x r.0 r.1 r.2) (append_assoc done (l ∷ []) ls) r.4))

-- a refused add has a number and what it carries
refusal : (a : AddAnswer) → NotAdded a → (k : ℕ) × (p : ℕ) × (add_outcome a ≡ Outcome.Refused k p)
refusal AddAnswer.Added m = absurd (m refl)
refusal AddAnswer.TooLong m = (_, _, refl)
refusal AddAnswer.NoToken m = (_, _, refl)
refusal (AddAnswer.ForeignByte i) m = (_, _, refl)
refusal (AddAnswer.LongName i) m = (_, _, refl)
refusal (AddAnswer.Measured i) m = (_, _, refl)
refusal (AddAnswer.GrammarAt i) m = (_, _, refl)
refusal AddAnswer.TableFull m = (_, _, refl)
refusal (AddAnswer.TooManyNames i) m = (_, _, refl)
refusal AddAnswer.TooManyAtoms m = (_, _, refl)

one_more : (done : List Text) (l : Text) → length done + 1 + 1 ≡ length (done ++ l ∷ []) + 1
one_more done l = omega (arith, length-append done (l ∷ []))

-- one line, where those behind it are judged
module _ (done : List Text) (l : Text) (ls : List Text) (h : CanStand (filled done)) (behind : CanStand (filled (done ++ l ∷ [])) → LinesJudged (done ++ l ∷ []) ls) where
  skip : blank_line l ≡ true → LinesJudged done (l ∷ ls)
  skip b =
      over done l ls
      (judge_blank (length done + 1) (filled done) l ls b
      ∙ ap (λ (k : ℕ). judge_lines k (filled done) ls) (one_more done l)
      ∙ ap (λ (rs : List Text). judge_lines (length (done ++ l ∷ []) + 1) rs ls) (sym (one_blank done l b)))
      (behind (subst CanStand (sym (one_blank done l b)) h))

  take_over : blank_line l ≡ false → judge_add (filled done) l ≡ AddAnswer.Added → LinesJudged done (l ∷ ls)
  take_over b e =
      over done l ls
      (judge_added (length done + 1) (filled done) l ls b e
      ∙ ap (λ (k : ℕ). judge_lines k (filled done ++ l ∷ []) ls) (one_more done l)
      ∙ ap (λ (rs : List Text). judge_lines (length (done ++ l ∷ []) + 1) rs ls) (sym (one_filled done l b)))
      (behind (subst CanStand (sym (one_filled done l b)) (stand_more (filled done) l h e)))

  refuse : blank_line l ≡ false → NotAdded (judge_add (filled done) l) → LinesJudged done (l ∷ ls)
  refuse b m =
      let r = refusal (judge_add (filled done) l) m in
      inr (
        r.0,
        length done + 1,
        r.1,
        ap load_outcome (judge_refused (length done + 1) (filled done) l ls (judge_add (filled done) l) b refl m) ∙ ap (on_line (length done + 1)) r.2,
        record { before = done; text = l; later = ls; split = refl; line_is = refl; filled_text = b; added = h; row = subst (AddRow (filled done) l) r.2 (add_row (filled done) l h) },
      )

  judged_line : LinesJudged done (l ∷ ls)
  judged_line = cases (blank_line l) skip (λ b. ⊎_elim (take_over b) (refuse b) (added_or (judge_add (filled done) l)))

lines_judged : (ls done : List Text) → CanStand (filled done) → LinesJudged done ls
unfolding judge_lines
lines_judged [] done h = inl (refl, subst (λ (x : List Text). CanStand (filled x)) (sym (append-nil done)) h)
lines_judged (l ∷ ls) done h = judged_line done l ls h (lines_judged ls (done ++ l ∷ []))

-- ---- the answer is that of a row

some_or : (ls : List Text) → ((is_none ls ≡ true) × (ls ≡ [])) ⊎ ((is_none ls ≡ false) × (ls ≡ [] → ⊥))
some_or [] = inl (refl, refl)
some_or (l ∷ ls) = inr (refl, cons≢nil)

module _ (f : Text) where
  abbrev Holds : LoadAnswer → Type 0
  Holds a = LoadRow f (load_outcome a)

  first_lines : judge_lines 1 (filled []) (lines_of f) ≡ judge_lines 1 [] (lines_of f)
  first_lines = ap (λ (rs : List Text). judge_lines 1 rs (lines_of f)) no_lines

  load_lines : length f ≤ 8192 → is_none (filled (lines_of f)) ≡ false → (filled (lines_of f) ≡ [] → ⊥) → LoadRow f (load_outcome (judge_load f))
  load_lines h e n =
      ⊎_elim
      (λ r. subst⁻¹ Holds (by_lines f h e ∙ sym first_lines ∙ r.0) (loads h n r.1))
      (λ r. subst (LoadRow f) (sym (ap load_outcome (by_lines f h e ∙ sym first_lines) ∙ r.3)) (line h r.4))
      (lines_judged (lines_of f) [] (subst CanStand (sym no_lines) stand_none))

  pub load_row : LoadRow f (load_outcome (judge_load f))
  load_row =
      cases (ltb 8192 (length f))
      (λ t. subst⁻¹ Holds (too_long f (ltb-true _ _ t)) (long (ltb-true _ _ t)))
      (λ t. ⊎_elim
      (λ e. subst⁻¹ Holds (all_blank f (ltb-false _ _ t) e.0) (blank (ltb-false _ _ t) e.1))
      (λ e. load_lines (ltb-false _ _ t) e.0 e.1)
      (some_or (filled (lines_of f))))

-- ---- and a row gives no other answer

-- lines that can stand are passed
passed : (before : List Text) (n : ℕ) (rs rest : List Text) → CanStand (rs ++ filled before)
    → judge_lines n rs (before ++ rest) ≡ judge_lines (n + length before) (rs ++ filled before) rest
unfolding filled
passed [] n rs rest h =
    let z : n ≡ n + 0 = omega arith in
    ap (λ (k : ℕ). judge_lines k rs rest) z ∙ ap (λ (x : List Text). judge_lines (n + 0) x rest) (sym (append-nil rs))
passed (l ∷ before) n rs rest h = go (blank_line l) refl h (passed before (n + 1) rs rest) (passed before (n + 1) (rs ++ l ∷ []) rest)
  where
    z : n + 1 + length before ≡ n + suc (length before)
    z = omega arith

    go : (b : Bool) → blank_line l ≡ b → CanStand (rs ++ cond (not b) (l ∷ filled before) (filled before))
        → (CanStand (rs ++ filled before) → judge_lines (n + 1) rs (before ++ rest) ≡ judge_lines (n + 1 + length before) (rs ++ filled before) rest)
        → (CanStand ((rs ++ l ∷ []) ++ filled before)
        → judge_lines (n + 1) (rs ++ l ∷ []) (before ++ rest) ≡ judge_lines (n + 1 + length before) ((rs ++ l ∷ []) ++ filled before) rest)
        → judge_lines n rs (l ∷ before ++ rest) ≡ judge_lines (n + suc (length before)) (rs ++ cond (not b) (l ∷ filled before) (filled before)) rest
    go true e k skip more = judge_blank n rs l (before ++ rest) e ∙ skip k ∙ ap (λ (m : ℕ). judge_lines m (rs ++ filled before) rest) z
    go false e k skip more =
        let s : CanStand ((rs ++ l ∷ []) ++ filled before) = subst CanStand (sym (append_assoc rs (l ∷ []) (filled before))) k in
        judge_added n rs l (before ++ rest) e (stand_added rs l (stand_first (rs ++ l ∷ []) (filled before) s))
        ∙ more s
        ∙ ap (λ (x : List Text). judge_lines (n + 1 + length before) x rest) (append_assoc rs (l ∷ []) (filled before))
        ∙ ap (λ (m : ℕ). judge_lines m (rs ++ l ∷ filled before) rest) z

some_line : (before : List Text) (l : Text) (later : List Text) → blank_line l ≡ false → is_none (filled (before ++ l ∷ later)) ≡ false
some_line before l later e =
    ap is_none (filled_append before (l ∷ later) ∙ ap (λ (x : List Text). filled before ++ x) (filled_more l later e)) ∙ not_none (filled before) l (filled later)

refused_first : (ls : List Text) (k n p : ℕ) → RefusedLine ls k n p → load_outcome (judge_lines 1 [] ls) ≡ Outcome.RefusedLine k n p
refused_first ls k n p r =
    let z : 1 + length r.before ≡ n = omega (arith, r.line_is) in
    let answer : AddAnswer = judge_add (filled r.before) r.text in
    let told : add_outcome answer ≡ Outcome.Refused k p = sym (add_row_only (filled r.before) r.text r.added (Outcome.Refused k p) r.row) in
    let out : NotAdded answer = λ e. let y : Outcome.Done ≡ Outcome.Refused k p = sym (ap add_outcome e) ∙ told in absurd (let x : ◌≡◌ {A = ℕ} 0 1 = cc in omega arith) in
    ap load_outcome
    (ap (judge_lines 1 []) r.split
    ∙ passed r.before 1 [] (r.text ∷ r.later) r.added
    ∙ judge_refused (1 + length r.before) (filled r.before) r.text r.later answer r.filled_text refl out)
    ∙ ap (on_line (1 + length r.before)) told
    ∙ ap (λ (m : ℕ). Outcome.RefusedLine k m p) z

all_added : (ls : List Text) → CanStand (filled ls) → judge_lines 1 [] ls ≡ LoadAnswer.Loaded
unfolding judge_lines
all_added ls h = ap (judge_lines 1 []) (sym (append-nil ls)) ∙ passed ls 1 [] [] h

-- a load that is not refused by its row is none by the judgement
of_loads : (f : Text) → length f ≤ 8192 → (filled (lines_of f) ≡ [] → ⊥) → CanStand (filled (lines_of f)) → judge_load f ≡ LoadAnswer.Loaded
of_loads f h n k = by_lines f h (⊎_elim (λ e. absurd (n e.1)) (λ e. e.0) (some_or (filled (lines_of f)))) ∙ all_added (lines_of f) k

pub load_done : (f : Text) → LoadRow f Outcome.Done → judge_load f ≡ LoadAnswer.Loaded
load_done f r = go Outcome.Done r refl
  where
    go : (o : Outcome) → LoadRow f o → o ≡ Outcome.Done → judge_load f ≡ LoadAnswer.Loaded
    go o (long h) e = absurd (let z : ◌≡◌ {A = ℕ} 0 1 = cc in omega arith)
    go o (blank h z) e = absurd (let z : ◌≡◌ {A = ℕ} 0 1 = cc in omega arith)
    go o (line h r) e = absurd (let z : ◌≡◌ {A = ℕ} 0 1 = cc in omega arith)
    go o (loads h n k) e = of_loads f h n k

-- a line that ends a load is refused: else the load would be done
pub load_line_refused : (f : Text) (n : ℕ) → judge_load f ≡ LoadAnswer.Line n AddAnswer.Added → ⊥
load_line_refused f n e =
    let z : LoadAnswer.Line n AddAnswer.Added ≡ LoadAnswer.Loaded = sym e ∙ load_done f (subst (LoadRow f) (ap load_outcome e) (load_row f)) in
    absurd (let y : ◌≡◌ {A = ℕ} 0 1 = cc in omega arith)

pub load_row_only : (f : Text) (o : Outcome) → LoadRow f o → o ≡ load_outcome (judge_load f)
load_row_only f o (long h) = sym (ap load_outcome (too_long f h))
load_row_only f o (blank h e) = sym (ap load_outcome (all_blank f h (ap is_none e)))
load_row_only f o (line {k} {n} {p} h r) =
    sym
    (ap load_outcome (by_lines f h (ap (λ (ls : List Text). is_none (filled ls)) r.split ∙ some_line r.before r.text r.later r.filled_text))
    ∙ refused_first (lines_of f) k n p r)
load_row_only f o (loads h n k) = sym (ap load_outcome (of_loads f h n k))
