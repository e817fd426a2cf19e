-- Still is answered by the row that applies, and by no other: words are drawn exactly if they are those of a plan that meets the rules, whose
-- floor then counts, and otherwise a first row is found exactly where some floor counts and meets them. Assumes nothing.
use Prim.Native.Nat.{ℕ, ◌≤◌}
use mathlib.Core.Path.{◌≡◌, refl, sym, ap, ◌∙◌, subst}
use mathlib.Core.Bool.{Bool, true, false, not, ◌&&◌, cond, and-eq-true_iff}
use mathlib.Core.List.{List, [], ◌∷◌, cons≢nil}
use mathlib.Mathlib.Data.Bool.Basic.{and_intro, eq-false_of_not-eq-true}
use native.Mathlib.Omega.{arith}
use lib.Dec.{leb}
use lib.ListN.{length}
use borrow.Author.Tests.{not-true, leb-true, le-leb}
use Rattle.formula.specs.Formula.{Formula, Name}
use Rattle.lists.proofs.Search.{first_short}
use Rattle.evalset.specs.Most.{most}
use Rattle.lists.proofs.Truth.{clash}
use Rattle.contact.specs.Meaning.{meets_all}
use Rattle.contact.specs.Question.{plain, Counts, NoFloor}
use Rattle.contact.specs.Numbering.{names_of, numbered_atoms, row_atoms}
use Rattle.contact.specs.Row.{Row}
use Rattle.contact.specs.Check.{rows, good, first_row, first_row_of}
use Rattle.contact.proofs.Naming.{named_plan}
use Rattle.contact.proofs.Claims.{meets_same, counts_same, no_plan_named, plan_counts_named, plan_meets_named}
use Rattle.plan.specs.Words.{Plan, IsPlan, words_of}
use Rattle.plan.specs.Wider.{widened}
use Rattle.plan.specs.Reader.{Reading, plan, refused, read_of, ReadingSays}
use Rattle.plan.specs.Judging.{uncovered}
use Rattle.plan.specs.Floor.{named_floor}
use Rattle.plan.proofs.Exact.{exact}
use Rattle.plan.proofs.Claims.{plan_is_read, uncovered_exactly, covered_exactly}
use Rattle.plan.proofs.Wider.{widened_plan, widened_floor, floor_again}
use Rattle.table.specs.declared.StillAnswer.{StillAnswer}
use Rattle.table.specs.declared.Outcome.{Outcome}
use Rattle.table.specs.Sheet.{Text}
use Rattle.table.specs.Calls.{formulas_of, names_in}
use Rattle.table.specs.Rules.{AreRules, CanStand}
use Rattle.table.specs.Still.{drawn_plan, drawn_reading, drawn_of, row_answer, rules_answer, still_answer}
use Rattle.table.specs.Numbers.{still_outcome}
use Rattle.table.specs.Rows.{SomeStand, Drawn, StillRow}
use Rattle.table.proofs.Rules.{can_rules, can_names, of_computed}

-- ---- where some rule stands

pub still_some : (rs : List Text) → SomeStand rs → (words : List ℕ) → still_answer rs words ≡ rules_answer (formulas_of rs) words
unfolding still_answer
still_some [] some words = absurd (some refl)
still_some (s ∷ rs) some words = refl

-- ---- what is drawn

module _ (fs : List (Formula Name)) (words : List ℕ) where
  plan_drawn : (p : Plan) (h : IsPlan p) → words_of p ≡ words → drawn_plan fs p h ≡ true → Drawn fs words
  plan_drawn p h w e =
      let n = length (names_of fs) in
      let a = (and-eq-true_iff (leb p.names n) (not (uncovered (widened n p)) && meets_all (named_floor fs p h) fs)).0 e in
      let b = (and-eq-true_iff (not (uncovered (widened n p))) (meets_all (named_floor fs p h) fs)).0 a.1 in
      record {
        plan = p;
        is = h;
        words_are = w;
        no_more = leb-true p.names n a.0;
        somewhere = λ l i. clash ((uncovered_exactly (widened n p)).1 (l, i)) (not-true _ b.0);
        meets = b.1;
      }

  pub computed_drawn : drawn_of fs words ≡ true → Drawn fs words
  unfolding drawn_of
  computed_drawn = go (read_of words) (exact words)
    where
      go : (r : Reading) (h : ReadingSays words r) → drawn_reading fs words r h ≡ true → Drawn fs words
      go (plan p) h e = plan_drawn p h.0 h.1 e
      go (refused j) h e = clash e refl

  -- the plan passes, however it was shown to be one
  drawn_passes : (d : Drawn fs words) (h : IsPlan d.plan) → drawn_plan fs d.plan h ≡ true
  drawn_passes d h =
      let n = length (names_of fs) in
      and_intro (le-leb d.plan.names n d.no_more)
      (and_intro
      (ap not (eq-false_of_not-eq-true (λ t. let r = (uncovered_exactly (widened n d.plan)).0 t in d.somewhere r.0 r.1)))
      (meets_same (named_floor fs d.plan h) (named_floor fs d.plan d.is) (floor_again fs d.plan h d.is) fs ∙ d.meets))

  pub drawn_computed : Drawn fs words → drawn_of fs words ≡ true
  unfolding drawn_of
  drawn_computed d = go (read_of words) (exact words) (sym (ap read_of d.words_are) ∙ plan_is_read d.plan d.is)
    where
      go : (r : Reading) (h : ReadingSays words r) → r ≡ plan d.plan → drawn_reading fs words r h ≡ true
      go (plan p) h e =
          let z : d.plan ≡ p = cc in
          subst (λ (x : Plan). (k : IsPlan x) → drawn_plan fs x k ≡ true) z (drawn_passes d) h.0
      go (refused j) h e = absurd (let z : ◌≡◌ {A = ℕ} 0 1 = cc in omega arith)

  -- its floor counts
  pub drawn_counts : length (names_of fs) ≤ most → (d : Drawn fs words) → Counts plain (names_of fs) (named_floor fs d.plan d.is)
  drawn_counts few d =
      let n = length (names_of fs) in
      let k = widened_plan n d.plan d.no_more few d.is in
      let u : uncovered (widened n d.plan) ≡ false
      = eq-false_of_not-eq-true (λ t. let r = (uncovered_exactly (widened n d.plan)).0 t in d.somewhere r.0 r.1) in
      counts_same (named_floor fs (widened n d.plan) k) (named_floor fs d.plan d.is) (widened_floor fs n d.plan d.is k) plain (names_of fs)
      ((covered_exactly fs (widened n d.plan) k refl).0 u)

-- ---- the rows

pub one_row : (fs : List (Formula Name)) → length (first_row_of plain fs) ≤ 1
unfolding first_row
one_row fs = first_short (good plain (length (names_of fs)) (row_atoms fs) (numbered_atoms fs)) (rows (length (row_atoms fs)))

-- no row, or one
row_found : (words : List ℕ) (rs : List Text) (fs : List (Formula Name)) → SomeStand rs → AreRules rs fs → (Drawn fs words → ⊥) → (found : List Row) → first_row_of plain fs ≡ found
    → length found ≤ 1 → StillRow rs words (still_outcome (row_answer found))
row_found words rs fs some are other [] e l = StillRow.no some are ((no_plan_named plain fs).0 e)
row_found words rs fs some are other (row ∷ []) e l =
    StillRow.yes some are other (named_plan plain fs row e) (plan_counts_named plain fs row e) (plan_meets_named plain fs row e)
row_found words rs fs some are other (row ∷ next ∷ more) e l = absurd (omega arith)

pub still_row : (words : List ℕ) (rs : List Text) → CanStand rs → StillRow rs words (still_outcome (still_answer rs words))
unfolding still_answer
still_row words [] h = StillRow.none refl
still_row words (s ∷ rs) h = go (drawn_of fs words) refl
  where
    fs : List (Formula Name)
    fs = formulas_of (s ∷ rs)

    go : (b : Bool) → drawn_of fs words ≡ b → StillRow (s ∷ rs) words (still_outcome (cond b StillAnswer.AsDrawn (row_answer (first_row_of plain fs))))
    go true e = StillRow.drawn cons≢nil (can_rules (s ∷ rs) h) (computed_drawn fs words e)
    go false e =
        row_found words (s ∷ rs) fs cons≢nil (can_rules (s ∷ rs) h) (λ d. clash (drawn_computed fs words d) e) (first_row_of plain fs) refl (one_row fs)

module _ (words : List ℕ) (rs : List Text) (h : CanStand rs) (some : SomeStand rs) where
  abbrev ours : List (Formula Name)
  ours = formulas_of rs

  -- where the words are drawn, and where they are not and these rows are found
  says_drawn : drawn_of ours words ≡ true → still_answer rs words ≡ StillAnswer.AsDrawn
  says_drawn e = still_some rs some words ∙ ap (λ (b : Bool). cond b StillAnswer.AsDrawn (row_answer (first_row_of plain ours))) e

  says_row : (Drawn ours words → ⊥) → still_answer rs words ≡ row_answer (first_row_of plain ours)
  says_row other =
      still_some rs some words
      ∙ ap (λ (b : Bool). cond b StillAnswer.AsDrawn (row_answer (first_row_of plain ours))) (eq-false_of_not-eq-true (λ t. other (computed_drawn ours words t)))

  some_row : (found : List Row) → (found ≡ [] → ⊥) → row_answer found ≡ StillAnswer.Yes
  some_row [] n = absurd (n refl)
  some_row (row ∷ more) n = refl

  -- what is drawn counts and meets the rules
  no_drawn : NoFloor plain ours → Drawn ours words → ⊥
  unfolding names_in
  no_drawn never d = never (named_floor ours d.plan d.is) (drawn_counts ours words (can_names rs h) d) d.meets

pub still_row_only : (words : List ℕ) (rs : List Text) → CanStand rs → (o : Outcome) → StillRow rs words o → o ≡ still_outcome (still_answer rs words)
unfolding still_answer
still_row_only words rs h o (StillRow.none e) = sym (ap (λ (l : List Text). still_outcome (still_answer l words)) e)
still_row_only words rs h o (StillRow.drawn {fs} some are d) =
    sym (ap still_outcome (says_drawn words rs h some (of_computed rs fs are (λ gs. drawn_of gs words ≡ true) (drawn_computed fs words d))))
still_row_only words rs h o (StillRow.yes {fs} some are other F counts meets) =
    let never = of_computed rs fs are (λ gs. first_row_of plain gs ≡ [] → ⊥) (λ e. (no_plan_named plain fs).0 e F counts meets) in
    sym (ap still_outcome (says_row words rs h some (of_computed rs fs are (λ gs. Drawn gs words → ⊥) other) ∙ some_row words rs h some (first_row_of plain (formulas_of rs)) never))
still_row_only words rs h o (StillRow.no {fs} some are none) =
    let never : NoFloor plain (formulas_of rs) = of_computed rs fs are (NoFloor plain) none in
    sym (ap still_outcome (says_row words rs h some (no_drawn words rs h some never) ∙ ap row_answer ((no_plan_named plain (formulas_of rs)).1 never)))
