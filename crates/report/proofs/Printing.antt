-- The text that is computed for a sheet is meant, and no other is: the load's judgement has the outcome of the sheet's row, the formulas, the
-- plan and the tree that are computed are those that are meant, and the first byte tells the sorts of text apart. Assumes nothing.
use mathlib.Core.Path.{◌≡◌, refl, sym, ap, subst, ◌∙◌}
use mathlib.Core.Bool.{true}
use mathlib.Core.Logic.{◌↔◌, ◌⊎◌, inl, inr}
use mathlib.Core.List.{List, [], ◌∷◌, head-eq_of_cons-eq, nil≢cons}
use Prim.Native.Nat.{ℕ, ◌≤◌}
use native.Mathlib.Omega.{arith}
use lib.ListN.{length}
use Rattle.formula.specs.Formula.{Formula, Name}
use Rattle.lexer.specs.Text.{bytes}
use Rattle.contact.specs.Question.{Question, plain, Counts, NoFloor}
use Rattle.contact.specs.Numbering.{names_of}
use Rattle.plan.specs.Words.{Plan}
use Rattle.plan.specs.Plans.{plans_of}
use Rattle.plan.proofs.Claims.{no_plan_given, given_exactly, given_at_most_one}
use Rattle.table.specs.Sheet.{Text, lines_of, filled}
use Rattle.table.specs.Rules.{AreRules}
use Rattle.table.specs.Calls.{formulas_of, judge_load, if_loaded}
use Rattle.table.specs.Rows.{LoadRow}
use Rattle.table.specs.declared.LoadAnswer.{LoadAnswer}
use Rattle.table.specs.declared.Outcome.{Outcome}
use Rattle.table.specs.Numbers.{load_outcome}
use Rattle.table.proofs.Standing.{not_loaded}
use Rattle.table.proofs.LoadRows.{load_done}
use Rattle.table.proofs.Claims.{formulas_computed, load_answered, load_answered_only}
use Rattle.contact.specs.Meaning.{Floor, meets_all}
use Rattle.contact.proofs.Claims.{plan_counts_named, plan_meets_named}
use Rattle.contact.proofs.Naming.{named_plan}
use Rattle.trees.specs.Trees.{Tree, split, rule, floorless, missing}
use Rattle.trees.specs.OfRules.{IsWrittenTree}
use Rattle.trees.specs.Checker.{trees_of}
use Rattle.trees.proofs.OfRules.{Writes, writes}
use Rattle.table.specs.AtomText.{atom_text_of}
use Rattle.table.proofs.TreeRows.{trees_none, trees_one}
use Rattle.report.specs.Output.{plans_text, rules_text, trees_text, reasons_text, outcome_text, sheet_text, output_of, as_read_of, why_of}
use Rattle.report.specs.Lent.{of_sheet}
use Rattle.report.specs.Lines.{ended, head_line, plan_text, rule_lines, refused_text, margin, indented, reason_lines}
use Rattle.report.specs.Printed.{Printed, plan_lines, no_plan_line, refused_line, AsRead, Why}

-- the tree that is computed is the one that is meant, and one at most
pub tree_exactly : (fs : List (Formula Name)) (t : Tree) → (trees_of fs ≡ t ∷ []) ↔ IsWrittenTree fs t
tree_exactly fs t = (go (writes fs), trees_one fs t)
  where
    go : Writes fs → trees_of fs ≡ t ∷ [] → IsWrittenTree fs t
    go (Writes.told u w e none) f = subst (IsWrittenTree fs) (head-eq_of_cons-eq (sym e ∙ f)) w
    go (Writes.exists row found e) f = absurd (nil≢cons (sym e ∙ f))

pub trees_few : (fs : List (Formula Name)) → length (trees_of fs) ≤ 1
trees_few fs = go (writes fs)
  where
    go : Writes fs → length (trees_of fs) ≤ 1
    go (Writes.told u w e none) = omega (arith, ap length e)
    go (Writes.exists row found e) = omega (arith, ap length e)

module _ (file : Text) where
  -- what its rules are given
  module _ (given : List (Formula Name) → List ℕ) where
    -- a refused sheet has the text of its refusal
    pub refused_output : {number line place : ℕ} → LoadRow file (Outcome.RefusedLine number line place)
        → refused_text number line place ≡ sheet_text given file
    unfolding sheet_text
    refused_output row =
        let told = load_answered_only file _ row in
        ap outcome_text told
        ∙ sym (not_loaded (judge_load file) (given (formulas_of (filled (lines_of file)))) (outcome_text (load_outcome (judge_load file)))
        (λ e. let y = ap load_outcome e in absurd (let z : ◌≡◌ {A = ℕ} 0 1 = cc in omega arith)))

    -- a loaded one that of its rules
    pub loaded_output : {fs : List (Formula Name)} → LoadRow file Outcome.Done → AreRules (filled (lines_of file)) fs → given fs ≡ sheet_text given file
    unfolding sheet_text
    loaded_output {fs} done are =
        ap given (formulas_computed (filled (lines_of file)) fs are)
        ∙ sym (ap (λ (a : LoadAnswer). if_loaded a (given (formulas_of (filled (lines_of file)))) (outcome_text (load_outcome a))) (load_done file done))

    -- so what is said of both is said of every sheet's
    pub by_row : (P : List ℕ → Type 0)
        → ((number line place : ℕ) → LoadRow file (Outcome.RefusedLine number line place) → P (refused_text number line place))
        → ((fs : List (Formula Name)) → LoadRow file Outcome.Done → AreRules (filled (lines_of file)) fs → P (given fs))
        → P (sheet_text given file)
    by_row P refused loaded = go (load_outcome (judge_load file)) (load_answered file)
      where
        no : {number line place : ℕ} → LoadRow file (Outcome.RefusedLine number line place) → P (sheet_text given file)
        no {number} {line} {place} row = subst P (refused_output row) (refused number line place row)

        go : (o : Outcome) → LoadRow file o → P (sheet_text given file)
        go o (LoadRow.long h) = no (LoadRow.long h)
        go o (LoadRow.blank h e) = no (LoadRow.blank h e)
        go o (LoadRow.line h r) = no (LoadRow.line h r)
        go o (LoadRow.loads h some can) =
            let done = LoadRow.loads h some can in subst P (loaded_output done can.rules) (loaded can.formulas done can.rules)

  -- what the rules of a loaded sheet are given is lent, and that of another sheet is nothing
  module _ {A : Type 0} (given : List (Formula Name) → List A) where
    loaded_lent : {fs : List (Formula Name)} → LoadRow file Outcome.Done → AreRules (filled (lines_of file)) fs → given fs ≡ of_sheet given file
    unfolding of_sheet
    loaded_lent {fs} done are =
        ap given (formulas_computed (filled (lines_of file)) fs are)
        ∙ sym (ap (λ (a : LoadAnswer). if_loaded a (given (formulas_of (filled (lines_of file)))) []) (load_done file done))

    refused_lent : {number line place : ℕ} → LoadRow file (Outcome.RefusedLine number line place) → of_sheet given file ≡ []
    unfolding of_sheet
    refused_lent row =
        let told = load_answered_only file _ row in
        not_loaded (judge_load file) (given (formulas_of (filled (lines_of file)))) []
        (λ e. let y = ap load_outcome e in absurd (let z : ◌≡◌ {A = ℕ} 0 1 = cc in omega arith))

    -- so it is one thing, exactly if the sheet is loaded and this is what its rules are given
    pub lent : (P : List (Formula Name) → A → Type 0) → ((fs : List (Formula Name)) (a : A) → (given fs ≡ a ∷ []) ↔ P fs a) → (a : A)
        → (of_sheet given file ≡ a ∷ []) ↔ (LoadRow file Outcome.Done × (fs : List (Formula Name)) × AreRules (filled (lines_of file)) fs × P fs a)
    lent P exactly a =
        (λ e. go e (load_outcome (judge_load file)) (load_answered file), λ r. sym (loaded_lent r.0 r.2) ∙ (exactly r.1 a).1 r.3)
      where
        no : {number line place : ℕ} → of_sheet given file ≡ a ∷ [] → LoadRow file (Outcome.RefusedLine number line place) → ⊥
        no e row = nil≢cons (sym (refused_lent row) ∙ e)

        go : of_sheet given file ≡ a ∷ [] → (o : Outcome) → LoadRow file o
            → LoadRow file Outcome.Done × (fs : List (Formula Name)) × AreRules (filled (lines_of file)) fs × P fs a
        go e o (LoadRow.long h) = absurd (no e (LoadRow.long h))
        go e o (LoadRow.blank h k) = absurd (no e (LoadRow.blank h k))
        go e o (LoadRow.line h r) = absurd (no e (LoadRow.line h r))
        go e o (LoadRow.loads h some can) =
            let done = LoadRow.loads h some can in (done, can.formulas, can.rules, (exactly can.formulas a).0 (loaded_lent done can.rules ∙ e))

    -- or nothing
    pub lent_or_none : ((fs : List (Formula Name)) → length (given fs) ≤ 1) → (of_sheet given file ≡ []) ⊎ ((a : A) × (of_sheet given file ≡ a ∷ []))
    unfolding of_sheet
    lent_or_none few = go (judge_load file)
      where
        one : (l : List A) → length l ≤ 1 → (l ≡ []) ⊎ ((a : A) × (l ≡ a ∷ []))
        one [] h = inl refl
        one (a ∷ []) h = inr (a, refl)
        one (a ∷ b ∷ l) h = absurd (omega (arith, h))

        go : (o : LoadAnswer) → (if_loaded o (given (formulas_of (filled (lines_of file)))) [] ≡ []) ⊎ ((a : A) × (if_loaded o (given (formulas_of (filled (lines_of file)))) [] ≡ a ∷ []))
        go LoadAnswer.Loaded = one (given (formulas_of (filled (lines_of file)))) (few (formulas_of (filled (lines_of file))))
        go LoadAnswer.FileTooLong = inl refl
        go LoadAnswer.AllBlank = inl refl
        go (LoadAnswer.Line n r) = inl refl

  -- ---- rules as they were read: no other text is meant, and it is meant

  pub as_read_only : (out : List ℕ) → AsRead file out → out ≡ as_read_of file
  as_read_only out (AsRead.lines done are) = loaded_output rule_lines done are
  as_read_only out (AsRead.refused row) = refused_output rule_lines row

  pub as_read : AsRead file (as_read_of file)
  as_read = by_row rule_lines (AsRead file) (λ number line place row. AsRead.refused row) (λ fs done are. AsRead.lines done are)

  -- ---- why there is no plan: likewise

  pub why_only : (out : List ℕ) → Why file out → out ≡ why_of file
  unfolding reasons_text
  why_only out (Why.reasons {fs} t done are w) = sym (ap (trees_text (atom_text_of fs)) (trees_one fs t w)) ∙ loaded_output reasons_text done are
  why_only out (Why.exists {fs} done are F counts meets) =
      sym (ap (trees_text (atom_text_of fs)) (trees_none fs (λ none. none F counts meets))) ∙ loaded_output reasons_text done are
  why_only out (Why.refused row) = refused_output reasons_text row

  reasons_printed : {fs : List (Formula Name)} → LoadRow file Outcome.Done → AreRules (filled (lines_of file)) fs → Why file (reasons_text fs)
  unfolding reasons_text
  reasons_printed {fs} done are = go (writes fs)
    where
      go : Writes fs → Why file (trees_text (atom_text_of fs) (trees_of fs))
      go (Writes.told t w e none) = subst (λ (ts : List Tree). Why file (trees_text (atom_text_of fs) ts)) (sym e) (Why.reasons t done are w)
      go (Writes.exists row found e) =
          subst (λ (ts : List Tree). Why file (trees_text (atom_text_of fs) ts)) (sym e)
          (Why.exists done are (named_plan plain fs row found) (plan_counts_named plain fs row found) (plan_meets_named plain fs row found))

  pub why : Why file (why_of file)
  why = by_row reasons_text (Why file) (λ number line place row. Why.refused row) (λ fs done are. reasons_printed done are)

  -- the line PLAN EXISTS: no tree's text and no refusal's begins as it does
  pub some_floor : (out : List ℕ) → Why file out → out ≡ ended (bytes "PLAN EXISTS")
      → LoadRow file Outcome.Done × (fs : List (Formula Name)) × AreRules (filled (lines_of file)) fs × (F : Floor Name) × Counts plain (names_of fs) F × (meets_all F fs ≡ true)
  unfolding refused_text margin indented
  some_floor out (Why.reasons {fs} t done are w) e = absurd (go t w e)
    where
      go : (t : Tree) → IsWrittenTree fs t → reason_lines (atom_text_of fs) 0 t ≡ ended (bytes "PLAN EXISTS") → ⊥
      go (split a t f) w e = let z = head-eq_of_cons-eq e in omega arith
      go (rule k) w e = let z = head-eq_of_cons-eq e in omega arith
      go floorless w e = let z = head-eq_of_cons-eq e in omega arith
      go missing w e = w
  some_floor out (Why.exists {fs} done are F counts meets) e = (done, fs, are, F, counts, meets)
  some_floor out (Why.refused row) e = absurd (let z = head-eq_of_cons-eq e in omega arith)

  -- ---- the plan by a question: likewise

  module _ (q : Question) where
    pub printed_only : (out : List ℕ) → Printed q file out → out ≡ output_of q file
    unfolding rules_text
    printed_only out (plan_lines {fs} {p} done are given) = sym (ap (plans_text (names_of fs)) ((given_exactly q fs p).1 given)) ∙ loaded_output (rules_text q) done are
    printed_only out (no_plan_line {fs} done are never) = sym (ap (plans_text (names_of fs)) ((no_plan_given q fs).1 never)) ∙ loaded_output (rules_text q) done are
    printed_only out (refused_line row) = refused_output (rules_text q) row

    rules_printed : {fs : List (Formula Name)} → LoadRow file Outcome.Done → AreRules (filled (lines_of file)) fs → Printed q file (rules_text q fs)
    unfolding rules_text
    rules_printed {fs} done are = go (plans_of q fs) refl
      where
        go : (ps : List Plan) → plans_of q fs ≡ ps → Printed q file (plans_text (names_of fs) ps)
        go [] e = no_plan_line done are ((no_plan_given q fs).0 e)
        go (p ∷ []) e = plan_lines done are ((given_exactly q fs p).0 e)
        go (p ∷ another ∷ ps) e = absurd (omega (arith, given_at_most_one q fs, ap length e))

    pub printed : Printed q file (output_of q file)
    printed = by_row (rules_text q) (Printed q file) (λ number line place row. refused_line row) (λ fs done are. rules_printed done are)

    -- the line NO PLAN: no plan's text and no refusal's begins as it does
    pub no_floor : (out : List ℕ) → Printed q file out → out ≡ ended (bytes "NO PLAN")
        → LoadRow file Outcome.Done × (fs : List (Formula Name)) × AreRules (filled (lines_of file)) fs × NoFloor q fs
    unfolding plan_text head_line refused_text
    no_floor out (plan_lines done are given) e = absurd (let z = head-eq_of_cons-eq e in omega arith)
    no_floor out (no_plan_line {fs} done are never) e = (done, fs, are, never)
    no_floor out (refused_line row) e = absurd (let z = head-eq_of_cons-eq e in omega arith)
