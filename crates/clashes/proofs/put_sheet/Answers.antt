-- `clashes::put_sheet` meets its contract: the sheet is loaded or refused, and each has its text. Assumes nothing.
use borrow.Enum.Refused.{opened}
use mathlib.Core.Path.{◌≡◌, sym, ap, ◌∙◌}
use mathlib.Core.List.{List}
use Prim.Native.Nat.{ℕ}
use native.Mathlib.Omega.{arith}
use lib.ListN.{length, length-map}
use Rattle.syntax.specs.Rule.{meaning_of}
use Rattle.lists.proofs.Putting.{puts_text}
use Rattle.table.specs.Sheet.{lines_of}
use Rattle.table.specs.Store.{rules_of}
use Rattle.table.specs.Calls.{formulas_of}
use Rattle.report.proofs.Reporting.{told_not_loaded, refused_text, held, loaded_some, loaded_text}
use Rattle.clashes.specs.Printed.{numbers_from}
use Rattle.clashes.specs.Output.{rules_clash}
use Rattle.clashes.proofs.Lines.{numbers_long}
use Rattle.clashes.proofs.Answers.{sheet_text}
use Rattle.clashes.proofs.put_sheet.Goals as goal

pub returns-in_default : goal.returns-in_default
returns-in_default c =
    let file = c.args.file.now in
    puts_text (refused_text _ _ _ c.load-loaded.ensures (rules_clash (numbers_from 1 (lines_of file))) (told_not_loaded _ (opened c.in_default.in_default-own.keys2))) c.put_refusal.ensures

pub put_clash-requires : goal.put_clash-requires
put_clash-requires c =
    let load = c.load-loaded.ensures in
    (load.from_us, loaded_some _ _ _ load c.in-Loaded.is, c.requires)

pub returns : goal.returns
returns c =
    let file = c.args.file.now in
    let load = c.load-loaded.ensures in
    let good = c.in-Loaded.is in
    let rs = rules_of c.load-loaded.result.table in
    let ns = numbers_from 1 (lines_of file) in
    let as_many : length (formulas_of rs) ≡ length rs = length-map rs meaning_of in
    let long : length ns ≡ length (formulas_of rs) = numbers_long 1 (lines_of file) ∙ sym (ap length (held _ _ _ load good)) ∙ sym as_many in
    puts_text
    (ap (λ (xs : List ℕ). rules_clash xs (formulas_of rs)) c.line_numbers-numbers.ensures
    ∙ sheet_text ns (formulas_of rs) long (omega (arith, as_many, load.from_us.standing.few))
    ∙ loaded_text _ _ _ load good (rules_clash ns))
    c.put_clash.ensures
