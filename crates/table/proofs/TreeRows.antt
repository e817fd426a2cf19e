-- Explain and check_tree are answered by the row that applies, and by no other: the writer has its one tree exactly where no plan exists, and
-- the checker accepts exactly the words of closed trees. Assumes nothing.
use Prim.Native.Nat.{ℕ, ◌≤◌, ◌<◌}
use mathlib.Core.Path.{◌≡◌, refl, sym, ap, ◌∙◌, subst}
use mathlib.Core.Bool.{Bool, true, false, cond}
use mathlib.Core.List.{List, [], ◌∷◌, cons≢nil, nil≢cons}
use native.Mathlib.Omega.{arith}
use lib.Dec.{leb}
use lib.ListN.{length, take, length-map}
use lib.Seq.{take-append_seam}
use borrow.Author.Tests.{leb-true, leb-false, le-leb, lt-leb}
use Rattle.lists.specs.Buffer.{over}
use Rattle.formula.specs.Formula.{Formula, Name}
use Rattle.contact.specs.Question.{plain, NoFloor}
use Rattle.contact.specs.Numbering.{different_atoms, numbered_atoms}
use Rattle.contact.proofs.Claims.{plan_counts_named, plan_meets_named, no_plan_named}
use Rattle.contact.proofs.Naming.{named_plan}
use Rattle.contact.proofs.Numbered.{numbers_count}
use Rattle.syntax.specs.Rule.{meaning_of}
use Rattle.std.specs.Prelude.{Result, Ok, Err}
use Rattle.trees.specs.declared.NotClosed.{NotClosed}
use Rattle.trees.specs.Trees.{Tree, words_of}
use Rattle.trees.specs.OfRules.{IsWrittenTree}
use Rattle.trees.specs.Checker.{checked_of, trees_of}
use Rattle.trees.proofs.OfRules.{Writes, writes, accepts_exactly, refuses_exactly, closed_no_plan, written_closed, written_once}
use Rattle.table.specs.declared.ExplainAnswer.{ExplainAnswer}
use Rattle.table.specs.declared.Outcome.{Outcome}
use Rattle.table.specs.Sheet.{Text}
use Rattle.table.specs.Calls.{formulas_of, atoms_in}
use Rattle.table.specs.Rules.{AreRules, CanStand}
use Rattle.table.specs.Explaining.{told_answer, explain_answer, told_words, explain_words, verdict_answer, check_answer}
use Rattle.table.specs.Numbers.{explain_outcome, check_outcome}
use Rattle.table.specs.Rows.{SomeStand, ExplainRow, CheckRow}
use Rattle.table.proofs.Rules.{AllRead, are_formulas, formulas_are, can_atoms}

-- ---- where some rule stands

pub told_some : (rs : List Text) → SomeStand rs → (room : ℕ) → explain_answer rs room ≡ told_answer (trees_of (formulas_of rs)) room
unfolding explain_answer
told_some [] some room = absurd (some refl)
told_some (s ∷ rs) some room = refl

pub words_some : (rs : List Text) → SomeStand rs → (buffer : List ℕ) → explain_words rs buffer ≡ told_words (trees_of (formulas_of rs)) buffer
unfolding explain_words
words_some [] some buffer = absurd (some refl)
words_some (s ∷ rs) some buffer = refl

pub checked_some : (rs : List Text) → SomeStand rs → (words : List ℕ) → check_answer rs words ≡ verdict_answer (checked_of (formulas_of rs) words)
unfolding check_answer
checked_some [] some words = absurd (some refl)
checked_some (s ∷ rs) some words = refl

-- ---- the writer's trees of rules

-- none where a floor meets them
pub trees_none : (fs : List (Formula Name)) → (NoFloor plain fs → ⊥) → trees_of fs ≡ []
trees_none fs some = go (writes fs)
  where
    go : Writes fs → trees_of fs ≡ []
    go (Writes.told t w e none) = absurd (some ((no_plan_named plain fs).0 none))
    go (Writes.exists row found e) = e

-- and the one that is meant
pub trees_one : (fs : List (Formula Name)) (t : Tree) → IsWrittenTree fs t → trees_of fs ≡ t ∷ []
trees_one fs t w = go (writes fs)
  where
    go : Writes fs → trees_of fs ≡ t ∷ []
    go (Writes.told u v e none) = e ∙ ap (λ (x : Tree). x ∷ []) (written_once fs u t v w)
    go (Writes.exists row found e) = absurd (nil≢cons (sym ((no_plan_named plain fs).1 (closed_no_plan fs t (written_closed fs t w))) ∙ found))

-- ---- explain

module _ (room : ℕ) where
  told_row : (rs : List Text) (fs : List (Formula Name)) → SomeStand rs → AreRules rs fs → ExplainRow rs room (explain_outcome (told_answer (trees_of fs) room))
  told_row rs fs some are = go (writes fs)
    where
      by : (t : Tree) → IsWrittenTree fs t → (b : Bool) → leb (length (words_of t)) room ≡ b
          → ExplainRow rs room (explain_outcome (cond b (ExplainAnswer.Tree (length (words_of t))) (ExplainAnswer.ShortBuffer (length (words_of t)))))
      by t w true l = ExplainRow.tree t some are w (leb-true (length (words_of t)) room l)
      by t w false l = ExplainRow.short t some are w (leb-false (length (words_of t)) room l)

      go : Writes fs → ExplainRow rs room (explain_outcome (told_answer (trees_of fs) room))
      go (Writes.told t w e none) = subst (λ (ts : List Tree). ExplainRow rs room (explain_outcome (told_answer ts room))) (sym e) (by t w (leb (length (words_of t)) room) refl)
      go (Writes.exists row found e) =
          subst (λ (ts : List Tree). ExplainRow rs room (explain_outcome (told_answer ts room))) (sym e)
          (ExplainRow.plan some are (named_plan plain fs row found) (plan_counts_named plain fs row found) (plan_meets_named plain fs row found))

  pub explain_row : (rs : List Text) → AllRead rs → ExplainRow rs room (explain_outcome (explain_answer rs room))
  unfolding explain_answer
  explain_row [] read = ExplainRow.none refl
  explain_row (s ∷ rs) read = told_row (s ∷ rs) (formulas_of (s ∷ rs)) cons≢nil (formulas_are (s ∷ rs) read)

  -- the answer, where these are the writer's trees of the rules
  told_trees : (rs : List Text) (fs : List (Formula Name)) → SomeStand rs → AreRules rs fs → (ts : List Tree) → trees_of fs ≡ ts → explain_answer rs room ≡ told_answer ts room
  told_trees rs fs some are ts e =
      told_some rs some room ∙ ap (λ (us : List Tree). told_answer us room) (ap trees_of (sym (are_formulas rs fs are)) ∙ e)

  told_tree : (rs : List Text) (fs : List (Formula Name)) → SomeStand rs → AreRules rs fs → (t : Tree) → IsWrittenTree fs t → (b : Bool) → leb (length (words_of t)) room ≡ b
      → explain_outcome (cond b (ExplainAnswer.Tree (length (words_of t))) (ExplainAnswer.ShortBuffer (length (words_of t)))) ≡ explain_outcome (explain_answer rs room)
  told_tree rs fs some are t w b l =
      ap explain_outcome (ap (λ (c : Bool). cond c (ExplainAnswer.Tree (length (words_of t))) (ExplainAnswer.ShortBuffer (length (words_of t)))) (sym l)
      ∙ sym (told_trees rs fs some are (t ∷ []) (trees_one fs t w)))

  pub explain_row_only : (rs : List Text) (o : Outcome) → ExplainRow rs room o → o ≡ explain_outcome (explain_answer rs room)
  unfolding explain_answer
  explain_row_only rs o (ExplainRow.none e) = sym (ap (λ (l : List Text). explain_outcome (explain_answer l room)) e)
  explain_row_only rs o (ExplainRow.plan {fs} some are F counts meets) = sym (ap explain_outcome (told_trees rs fs some are [] (trees_none fs (λ none. none F counts meets))))
  explain_row_only rs o (ExplainRow.short {fs} t some are w l) = told_tree rs fs some are t w false (lt-leb (length (words_of t)) room l)
  explain_row_only rs o (ExplainRow.tree {fs} t some are w l) = told_tree rs fs some are t w true (le-leb (length (words_of t)) room l)

  -- where a tree is said there was room for it
  pub had_tree : (rs : List Text) (o : Outcome) → ExplainRow rs room o → (n : ℕ) → o ≡ Outcome.Tree n → SomeStand rs × (n ≤ room)
  had_tree rs o (ExplainRow.none e) n f = absurd (let z : ◌≡◌ {A = ℕ} 0 1 = cc in omega arith)
  had_tree rs o (ExplainRow.plan some are F counts meets) n f = absurd (let z : ◌≡◌ {A = ℕ} 0 1 = cc in omega arith)
  had_tree rs o (ExplainRow.short t some are w l) n f = absurd (let z : ◌≡◌ {A = ℕ} 0 1 = cc in omega arith)
  had_tree rs o (ExplainRow.tree t some are w l) n f = let z : length (words_of t) ≡ n = cc in (some, omega arith)

-- ---- the words of the buffer

module _ (rs : List Text) (buffer : List ℕ) where
  told_words_lem : (fs : List (Formula Name)) → SomeStand rs → AreRules rs fs → (ts : List Tree) → trees_of fs ≡ ts → explain_words rs buffer ≡ told_words ts buffer
  told_words_lem fs some are ts e = words_some rs some buffer ∙ ap (λ (us : List Tree). told_words us buffer) (ap trees_of (sym (are_formulas rs fs are)) ∙ e)

  pub tree_written : (fs : List (Formula Name)) → SomeStand rs → AreRules rs fs → (t : Tree) → IsWrittenTree fs t → length (words_of t) ≤ length buffer → explain_words rs buffer ≡ over (words_of t) buffer
  tree_written fs some are t w l =
      told_words_lem fs some are (t ∷ []) (trees_one fs t w) ∙ ap (λ (b : Bool). cond b (over (words_of t) buffer) buffer) (le-leb (length (words_of t)) (length buffer) l)

  pub first_tree : (fs : List (Formula Name)) → SomeStand rs → AreRules rs fs → (t : Tree) → IsWrittenTree fs t → length (words_of t) ≤ length buffer
      → take (length (words_of t)) (explain_words rs buffer) ≡ words_of t
  unfolding over
  first_tree fs some are t w l = ap (take (length (words_of t))) (tree_written fs some are t w l) ∙ take-append_seam (words_of t) _

  pub tree_kept : (o : Outcome) → ExplainRow rs (length buffer) o → ((n : ℕ) → o ≡ Outcome.Tree n → ⊥) → explain_words rs buffer ≡ buffer
  unfolding explain_words
  tree_kept o (ExplainRow.none e) n = ap (λ (l : List Text). explain_words l buffer) e
  tree_kept o (ExplainRow.plan {fs} some are F counts meets) n = told_words_lem fs some are [] (trees_none fs (λ none. none F counts meets))
  tree_kept o (ExplainRow.short {fs} t some are w l) n =
      told_words_lem fs some are (t ∷ []) (trees_one fs t w) ∙ ap (λ (b : Bool). cond b (over (words_of t) buffer) buffer) (lt-leb (length (words_of t)) (length buffer) l)
  tree_kept o (ExplainRow.tree t some are w l) n = absurd (n (length (words_of t)) refl)

-- ---- check_tree

-- the rules are few enough for the bits of a word
pub record FewFor (fs : List (Formula Name)) : Type 0 where
  pub atoms : length (different_atoms fs) ≤ 256
  pub rules : length (numbered_atoms fs) < 256

-- as rules that stand are
pub few_for : (rs : List Text) → CanStand rs → FewFor (formulas_of rs)
unfolding atoms_in
few_for rs h =
    record {
      atoms = omega (arith, can_atoms rs h);
      rules = omega (arith, numbers_count (formulas_of rs), length-map rs meaning_of, h.few);
    }

module _ (words : List ℕ) where
  verdict_row : (rs : List Text) (fs : List (Formula Name)) → FewFor fs → SomeStand rs → AreRules rs fs → CheckRow rs words (check_outcome (verdict_answer (checked_of fs words)))
  verdict_row rs fs few some are = go (checked_of fs words) refl
    where
      go : (v : Result Unit NotClosed) → checked_of fs words ≡ v → CheckRow rs words (check_outcome (verdict_answer v))
      go (Ok u) e = let c = (accepts_exactly fs few.atoms few.rules words).0 e in CheckRow.closed c.0 some are c.2 c.1
      go (Err wrong) e = CheckRow.wrong some are ((refuses_exactly fs few.atoms few.rules words wrong.at).0 e)

  pub check_row : (rs : List Text) → AllRead rs → FewFor (formulas_of rs) → CheckRow rs words (check_outcome (check_answer rs words))
  unfolding check_answer
  check_row [] read few = CheckRow.none refl
  check_row (s ∷ rs) read few = verdict_row (s ∷ rs) (formulas_of (s ∷ rs)) few cons≢nil (formulas_are (s ∷ rs) read)

  by_verdict : (rs : List Text) (fs : List (Formula Name)) → SomeStand rs → AreRules rs fs → (v : Result Unit NotClosed) → checked_of fs words ≡ v → check_outcome (verdict_answer v) ≡ check_outcome (check_answer rs words)
  by_verdict rs fs some are v e =
      sym (ap check_outcome (checked_some rs some words ∙ ap verdict_answer (ap (λ (gs : List (Formula Name)). checked_of gs words) (sym (are_formulas rs fs are)) ∙ e)))

  pub check_row_only : (rs : List Text) → FewFor (formulas_of rs) → (o : Outcome) → CheckRow rs words o → o ≡ check_outcome (check_answer rs words)
  unfolding check_answer
  check_row_only rs few o (CheckRow.none e) = sym (ap (λ (l : List Text). check_outcome (check_answer l words)) e)
  check_row_only rs few o (CheckRow.wrong {fs} {j} some are r) =
      let f = subst FewFor (sym (are_formulas rs fs are)) few in by_verdict rs fs some are (Err (record { at = j })) ((refuses_exactly fs f.atoms f.rules words j).1 r)
  check_row_only rs few o (CheckRow.closed {fs} t some are c w) =
      let f = subst FewFor (sym (are_formulas rs fs are)) few in by_verdict rs fs some are (Ok tt) ((accepts_exactly fs f.atoms f.rules words).1 (t, w, c))
