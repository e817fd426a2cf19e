-- Explain and check_tree meet their definitions: the rules are compiled, and the writer and the checker answer by them. Assumes nothing.
use Prim.Native.Nat.{ℕ, ◌≤◌, ◌<◌}
use mathlib.Core.Bool.{Bool, true, false, cond}
use mathlib.Core.Path.{◌≡◌, refl, sym, ap, ap₂, ◌∙◌}
use mathlib.Core.List.{List, [], ◌∷◌, ◌++◌}
use lib.Dec.{leb}
use native.Mathlib.Omega.{arith}
use native.Mathlib.Nat.{zero-add}
use lib.ListN.{length, drop}
use lib.Seq.{sets, sets-eq}
use borrow.Author.Tests.{leb-true, leb-false}
use Rattle.lists.specs.Buffer.{over}
use Rattle.ruleset.specs.declared.Compiling.{Compiling}
use Rattle.ruleset.specs.Texts.{CompiledRules, VerdictIs, ExplainedIs}
use Rattle.std.specs.Prelude.{Result}
use Rattle.trees.specs.declared.NotClosed.{NotClosed}
use Rattle.trees.specs.Trees.{Tree, words_of}
use Rattle.trees.specs.Checker.{trees_of}
use Rattle.explaining.specs.declared.NoTree.{NoTree}
use Rattle.explaining.specs.Explained.{Explained}
use Rattle.table.specs.declared.Table.{Table}
use Rattle.table.specs.declared.ExplainAnswer.{ExplainAnswer}
use Rattle.table.specs.declared.ExplainResult.{ExplainResult}
use Rattle.table.specs.declared.CheckAnswer.{CheckAnswer}
use Rattle.table.specs.declared.CheckResult.{CheckResult}
use Rattle.table.specs.Store.{rules_of}
use Rattle.table.specs.Sheet.{Text}
use Rattle.table.specs.Calls.{formulas_of, FromUs}
use Rattle.table.specs.Explaining.{told_answer, explanation_answer, explain_answer, told_words, explain_words, explained, Explains, verdict_answer, check_answer, tree_checked, Checks}
use Rattle.table.proofs.Lines.{none_stand}
use Rattle.table.proofs.Asking.{some_stand}
use Rattle.table.proofs.TreeRows.{told_some, words_some, checked_some}

-- ---- explain

abbrev pub explain_result : Table → ExplainAnswer → ExplainResult
explain_result t a = record { table = t; answer = a }

-- words put from the first place on
sets_over : (ws before : List ℕ) → length ws ≤ length before → sets before 0 ws ≡ over ws before
unfolding over
sets_over ws before fits = sets-eq ws before 0 (omega arith) ∙ ap (λ (k : ℕ). ws ++ drop k before) (zero-add (length ws))

-- what the writer says of its trees, as explain's answer and words
explained_so : (ts : List Tree) (before after : List ℕ) (r : Result ℕ NoTree) → Explained ts before after r
    → (explanation_answer r ≡ told_answer ts (length before)) × (after ≡ told_words ts before)
explained_so [] before after r h = (ap explanation_answer h.0, h.1)
explained_so (t ∷ ts) before after r h = go (leb (length (words_of t)) (length before)) refl
  where
    go : (b : Bool) → leb (length (words_of t)) (length before) ≡ b
        → (explanation_answer r ≡ cond b (ExplainAnswer.Tree (length (words_of t))) (ExplainAnswer.ShortBuffer (length (words_of t))))
        × (after ≡ cond b (over (words_of t) before) before)
    go true l =
        let fits = leb-true (length (words_of t)) (length before) l in
        let s = h.0 fits in
        (ap explanation_answer s.0, s.1 ∙ sets_over (words_of t) before fits)
    go false l = let s = h.1 (leb-false (length (words_of t)) (length before) l) in (ap explanation_answer s.0, s.1)

module _ (t : Table) (v : FromUs t) (buffer : List ℕ) where
  pub explains_of : (a : ExplainAnswer) (exit : List ℕ) → a ≡ explain_answer (rules_of t) (length buffer) → exit ≡ explain_words (rules_of t) buffer
      → Explains t buffer (explain_result t a) exit
  unfolding explained
  explains_of a exit e f = record { result = ap₂ explain_result v.same e; words = f; same = refl; from_us = v }

  pub explains_none : t.count ≤ 0 → Explains t buffer (explain_result t ExplainAnswer.NoRule) buffer
  unfolding explain_answer explain_words
  explains_none h =
      let none = none_stand t v h in
      explains_of ExplainAnswer.NoRule buffer (sym (ap (λ (rs : List Text). explain_answer rs (length buffer)) none)) (sym (ap (λ (rs : List Text). explain_words rs buffer) none))

  -- the writer's answer by the compiled rules
  pub explains_told : 0 < t.count → (c : Compiling) (kept code : List ℕ) → CompiledRules (formulas_of (rules_of t)) c kept code → (r : Result ℕ NoTree) (exit : List ℕ)
      → ExplainedIs c code buffer exit r → (a : ExplainAnswer) → a ≡ explanation_answer r → Explains t buffer (explain_result t a) exit
  unfolding ExplainedIs
  explains_told h c kept code compiled r exit says a e =
      let some = some_stand t v h in
      let so = explained_so (trees_of (formulas_of (rules_of t))) buffer exit r (says (formulas_of (rules_of t)) kept compiled) in
      explains_of a exit (e ∙ so.0 ∙ sym (told_some (rules_of t) some (length buffer))) (so.1 ∙ sym (words_some (rules_of t) some buffer))

-- ---- check_tree

abbrev pub check_result : Table → CheckAnswer → CheckResult
check_result t a = record { table = t; answer = a }

module _ (t : Table) (v : FromUs t) (words : List ℕ) where
  pub checks_of : (a : CheckAnswer) → a ≡ check_answer (rules_of t) words → Checks t words (check_result t a)
  unfolding tree_checked
  checks_of a e = record { result = ap₂ check_result v.same e; same = refl; from_us = v }

  pub checks_none : t.count ≤ 0 → Checks t words (check_result t CheckAnswer.NoRule)
  unfolding check_answer
  checks_none h = checks_of CheckAnswer.NoRule (sym (ap (λ (rs : List Text). check_answer rs words) (none_stand t v h)))

  -- the verdict by the compiled rules
  pub checks_verdict : 0 < t.count → (c : Compiling) (kept code : List ℕ) → CompiledRules (formulas_of (rules_of t)) c kept code → (r : Result Unit NotClosed) → VerdictIs c code words r
      → (a : CheckAnswer) → a ≡ verdict_answer r → Checks t words (check_result t a)
  unfolding VerdictIs
  checks_verdict h c kept code compiled r says a e =
      checks_of a (e ∙ ap verdict_answer (says (formulas_of (rules_of t)) kept compiled) ∙ sym (checked_some (rules_of t) (some_stand t v h) words))
