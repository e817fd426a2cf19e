-- What is proved of the text that the program clash prints for a sheet, `clash_text`, which `clash` gives by its contract: for every list of bytes it
-- is what is meant (specs/Printed.antt), and no other text is. Assumes nothing.
use mathlib.Core.Bool.{Bool}
use mathlib.Core.Path.{◌≡◌, refl, sym, ap₂, ◌∙◌}
use mathlib.Core.List.{List, [], ◌∷◌}
use Prim.Native.Nat.{ℕ, ◌≤◌}
use native.Mathlib.Omega.{arith}
use lib.ListN.{length}
use Rattle.formula.specs.Formula.{Formula, Name}
use Rattle.contact.specs.Question.{plain}
use Rattle.contact.specs.Row.{Row}
use Rattle.contact.specs.Check.{first_row_of}
use Rattle.contact.proofs.Claims.{plan_counts_named, plan_meets_named, no_plan_named}
use Rattle.contact.proofs.Naming.{named_plan}
use Rattle.clashing.specs.Clashing.{clash_of}
use Rattle.clashing.proofs.Claims.{clash_exactly}
use Rattle.table.specs.Sheet.{Text, lines_of, filled}
use Rattle.table.specs.Rules.{AreRules}
use Rattle.table.specs.Rows.{LoadRow}
use Rattle.table.specs.declared.Outcome.TheVariants as Outcome
use Rattle.table.proofs.StillRows.{one_row}
use Rattle.report.proofs.Printing.{refused_output, loaded_output, by_row}
use Rattle.clashes.specs.Printed.{numbers_from, clash_lines, ClashPrinted}
use Rattle.clashes.specs.Output.{rows_text, rules_clash, clash_text}
use Rattle.clashes.proofs.Answers.{found_text}

module _ (file : Text) where
  abbrev numbers : List ℕ
  numbers = numbers_from 1 (lines_of file)

  -- no other text is meant
  pub clash_printed_only : (out : List ℕ) → ClashPrinted file out → out ≡ clash_text file
  unfolding rules_clash
  clash_printed_only out (ClashPrinted.lines {fs} {set} done are is) =
      sym (ap₂ (λ (found : List Row) (s : List Bool). rows_text found (clash_lines numbers fs s)) ((no_plan_named plain fs).1 is.no_plan) (sym ((clash_exactly fs is.no_plan set).1 is)))
      ∙ loaded_output file (rules_clash numbers) done are
  clash_printed_only out (ClashPrinted.exists {fs} done are F counts meets) =
      found_text (first_row_of plain fs) (clash_lines numbers fs (clash_of fs)) (λ e. (no_plan_named plain fs).0 e F counts meets) ∙ loaded_output file (rules_clash numbers) done are
  clash_printed_only out (ClashPrinted.refused row) = refused_output file (rules_clash numbers) row

  rules_printed : (fs : List (Formula Name)) → LoadRow file Outcome.Done → AreRules (filled (lines_of file)) fs → ClashPrinted file (rules_clash numbers fs)
  unfolding rules_clash
  rules_printed fs done are = go (first_row_of plain fs) refl (one_row fs)
    where
      go : (found : List Row) → first_row_of plain fs ≡ found → length found ≤ 1 → ClashPrinted file (rows_text found (clash_lines numbers fs (clash_of fs)))
      go [] e l = let none = (no_plan_named plain fs).0 e in ClashPrinted.lines done are ((clash_exactly fs none (clash_of fs)).0 refl)
      go (row ∷ []) e l = ClashPrinted.exists done are (named_plan plain fs row e) (plan_counts_named plain fs row e) (plan_meets_named plain fs row e)
      go (row ∷ other ∷ found) e l = absurd (omega arith)

  -- and it is meant
  pub clash_printed : ClashPrinted file (clash_text file)
  clash_printed = by_row file (rules_clash numbers) (ClashPrinted file) (λ number line place row. ClashPrinted.refused row) rules_printed
