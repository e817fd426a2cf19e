-- Clash is answered by the row that applies, and by no other: a row is found exactly where a plan exists, and the set has a place for each rule.
-- Assumes nothing.
use Prim.Native.Nat.{ℕ, ◌≤◌}
use mathlib.Core.Path.{◌≡◌, refl, sym, ap, ap₂, ◌∙◌, subst}
use mathlib.Core.Bool.{Bool, true, false, cond}
use mathlib.Core.List.{List, [], ◌∷◌, ◌++◌, cons≢nil}
use native.Mathlib.Omega.{arith}
use lib.Dec.{leb}
use lib.ListN.{length, drop, length-map}
use borrow.Author.Tests.{leb-true, leb-false, le-leb, lt-leb}
use Rattle.formula.specs.Formula.{Formula, Name}
use Rattle.syntax.specs.Rule.{meaning_of}
use Rattle.contact.specs.Question.{plain, NoFloor}
use Rattle.contact.specs.Row.{Row}
use Rattle.contact.specs.Check.{first_row_of}
use Rattle.contact.proofs.Claims.{plan_counts_named, plan_meets_named, no_plan_named}
use Rattle.contact.proofs.Naming.{named_plan}
use Rattle.clashing.specs.Clash.{IsClash}
use Rattle.clashing.specs.Clashing.{clash_of}
use Rattle.clashing.proofs.Claims.{clash_length, clash_exactly}
use Rattle.table.specs.declared.ClashAnswer.{ClashAnswer}
use Rattle.table.specs.declared.Outcome.{Outcome}
use Rattle.table.specs.Sheet.{Text}
use Rattle.table.specs.Calls.{formulas_of}
use Rattle.table.specs.Rules.{AreRules, CanStand}
use Rattle.table.specs.Clashing.{rows_answer, clash_answer, rows_places, clash_places}
use Rattle.table.specs.Numbers.{clash_outcome}
use Rattle.table.specs.Rows.{SomeStand, ClashRow}
use Rattle.table.proofs.Rules.{can_rules, of_computed}
use Rattle.table.proofs.StillRows.{one_row}

-- ---- where some rule stands

pub answer_some : (rs : List Text) → SomeStand rs → (room : ℕ) → clash_answer rs room ≡ rows_answer (first_row_of plain (formulas_of rs)) (length (clash_of (formulas_of rs))) room
unfolding clash_answer
answer_some [] some room = absurd (some refl)
answer_some (s ∷ rs) some room = refl

pub places_some : (rs : List Text) → SomeStand rs → (places : List Bool) → clash_places rs places ≡ rows_places (first_row_of plain (formulas_of rs)) (clash_of (formulas_of rs)) places
unfolding clash_places
places_some [] some places = absurd (some refl)
places_some (s ∷ rs) some places = refl

-- the set has a place for each rule
as_many : (rs : List Text) → length (clash_of (formulas_of rs)) ≡ length rs
as_many rs = clash_length (formulas_of rs) ∙ length-map rs meaning_of

-- no row is found where no floor meets the rules
rows_none : (rs : List Text) (fs : List (Formula Name)) → AreRules rs fs → NoFloor plain fs → first_row_of plain (formulas_of rs) ≡ []
rows_none rs fs are never = of_computed rs fs are (λ gs. first_row_of plain gs ≡ []) ((no_plan_named plain fs).1 never)

-- ---- the answer

module _ (room : ℕ) where
  by_room : (rs : List Text) {fs : List (Formula Name)} → SomeStand rs → AreRules rs fs → NoFloor plain fs → (b : Bool) → leb (length rs) room ≡ b
      → ClashRow rs room (clash_outcome (cond b (ClashAnswer.Clash (length rs)) (ClashAnswer.ShortBuffer (length rs))))
  by_room rs some are none true l = ClashRow.clash some are none (leb-true (length rs) room l)
  by_room rs some are none false l = ClashRow.short some are none (leb-false (length rs) room l)

  -- no row, or one
  found_row : (rs : List Text) (fs : List (Formula Name)) → SomeStand rs → AreRules rs fs → (found : List Row) → first_row_of plain fs ≡ found → length found ≤ 1
      → ClashRow rs room (clash_outcome (rows_answer found (length rs) room))
  found_row rs fs some are [] e l = by_room rs some are ((no_plan_named plain fs).0 e) (leb (length rs) room) refl
  found_row rs fs some are (row ∷ []) e l =
      ClashRow.plan some are (named_plan plain fs row e) (plan_counts_named plain fs row e) (plan_meets_named plain fs row e)
  found_row rs fs some are (row ∷ next ∷ more) e l = absurd (omega arith)

  pub clash_row : (rs : List Text) → CanStand rs → ClashRow rs room (clash_outcome (clash_answer rs room))
  unfolding clash_answer
  clash_row [] h = ClashRow.none refl
  clash_row (s ∷ rs) h =
      let fs = formulas_of (s ∷ rs) in
      subst (λ (n : ℕ). ClashRow (s ∷ rs) room (clash_outcome (rows_answer (first_row_of plain fs) n room))) (sym (as_many (s ∷ rs)))
      (found_row (s ∷ rs) fs cons≢nil (can_rules (s ∷ rs) h) (first_row_of plain fs) refl (one_row fs))

  -- where no floor meets the rules
  says_places : (rs : List Text) (fs : List (Formula Name)) → SomeStand rs → AreRules rs fs → NoFloor plain fs → (b : Bool) → leb (length rs) room ≡ b
      → clash_outcome (cond b (ClashAnswer.Clash (length rs)) (ClashAnswer.ShortBuffer (length rs))) ≡ clash_outcome (clash_answer rs room)
  says_places rs fs some are none b l =
      sym (ap clash_outcome (answer_some rs some room
      ∙ ap₂ (λ (found : List Row) (n : ℕ). rows_answer found n room) (rows_none rs fs are none) (as_many rs)
      ∙ ap (λ (c : Bool). cond c (ClashAnswer.Clash (length rs)) (ClashAnswer.ShortBuffer (length rs))) l))

  some_row : (found : List Row) (n : ℕ) → (found ≡ [] → ⊥) → rows_answer found n room ≡ ClashAnswer.HasPlan
  some_row [] n h = absurd (h refl)
  some_row (row ∷ more) n h = refl

  pub clash_row_only : (rs : List Text) (o : Outcome) → ClashRow rs room o → o ≡ clash_outcome (clash_answer rs room)
  unfolding clash_answer
  clash_row_only rs o (ClashRow.none e) = sym (ap (λ (l : List Text). clash_outcome (clash_answer l room)) e)
  clash_row_only rs o (ClashRow.plan {fs} some are F counts meets) =
      let never = of_computed rs fs are (λ gs. first_row_of plain gs ≡ [] → ⊥) (λ e. (no_plan_named plain fs).0 e F counts meets) in
      sym (ap clash_outcome (answer_some rs some room ∙ some_row (first_row_of plain (formulas_of rs)) (length (clash_of (formulas_of rs))) never))
  clash_row_only rs o (ClashRow.short {fs} some are none l) = says_places rs fs some are none false (lt-leb (length rs) room l)
  clash_row_only rs o (ClashRow.clash {fs} some are none l) = says_places rs fs some are none true (le-leb (length rs) room l)

-- ---- the places

module _ (rs : List Text) (places : List Bool) where
  says_set : (fs : List (Formula Name)) → SomeStand rs → AreRules rs fs → NoFloor plain fs → (b : Bool) → leb (length rs) (length places) ≡ b
      → clash_places rs places ≡ cond b (clash_of (formulas_of rs) ++ drop (length (clash_of (formulas_of rs))) places) places
  says_set fs some are none b l =
      let set = clash_of (formulas_of rs) in
      places_some rs some places
      ∙ ap (λ (found : List Row). rows_places found set places) (rows_none rs fs are none)
      ∙ ap (λ (c : Bool). cond c (set ++ drop (length set) places) places) (ap (λ (n : ℕ). leb n (length places)) (as_many rs) ∙ l)

  -- the rules that clash, over the first places
  pub clash_written : (fs : List (Formula Name)) → SomeStand rs → AreRules rs fs → (set : List Bool) → IsClash fs set → length rs ≤ length places
      → clash_places rs places ≡ set ++ drop (length set) places
  clash_written fs some are set is l =
      let e : set ≡ clash_of (formulas_of rs) = of_computed rs fs are (λ gs. set ≡ clash_of gs) ((clash_exactly fs is.no_plan set).1 is) in
      says_set fs some are is.no_plan true (le-leb (length rs) (length places) l) ∙ sym (ap (λ (s : List Bool). s ++ drop (length s) places) e)

  rows_kept : (found : List Row) → (found ≡ [] → ⊥) → rows_places found (clash_of (formulas_of rs)) places ≡ places
  rows_kept [] h = absurd (h refl)
  rows_kept (row ∷ more) h = refl

  -- and all of them kept for another answer
  pub clash_kept : (o : Outcome) → ClashRow rs (length places) o → ((n : ℕ) → o ≡ Outcome.Clash n → ⊥) → clash_places rs places ≡ places
  unfolding clash_places
  clash_kept o (ClashRow.none e) n = ap (λ (l : List Text). clash_places l places) e
  clash_kept o (ClashRow.plan {fs} some are F counts meets) n =
      let never = of_computed rs fs are (λ gs. first_row_of plain gs ≡ [] → ⊥) (λ e. (no_plan_named plain fs).0 e F counts meets) in
      places_some rs some places ∙ rows_kept (first_row_of plain (formulas_of rs)) never
  clash_kept o (ClashRow.short {fs} some are none l) n = says_set fs some are none false (lt-leb (length rs) (length places) l)
  clash_kept o (ClashRow.clash some are none l) n = absurd (n (length rs) refl)

-- where the rules that clash are said there was room for them, and no floor meets the rules
pub had_places : (rs : List Text) (room : ℕ) (o : Outcome) → ClashRow rs room o → (n : ℕ) → o ≡ Outcome.Clash n → SomeStand rs × (length rs ≤ room) × NoFloor plain (formulas_of rs)
had_places rs room o (ClashRow.none e) n f = absurd (let z : ◌≡◌ {A = ℕ} 0 1 = cc in omega arith)
had_places rs room o (ClashRow.plan some are F counts meets) n f = absurd (let z : ◌≡◌ {A = ℕ} 0 1 = cc in omega arith)
had_places rs room o (ClashRow.short some are none l) n f = absurd (let z : ◌≡◌ {A = ℕ} 0 1 = cc in omega arith)
had_places rs room o (ClashRow.clash {fs} some are none l) n f = (some, l, of_computed rs fs are (NoFloor plain) none)
