-- `report::why` meets its contract: the sheet is loaded or refused, and each has its text (Reporting.antt). Assumes nothing.
use borrow.Enum.Refused.{opened}
use mathlib.Core.Path.{refl, ◌∙◌, fun_ext}
use Rattle.lists.proofs.Putting.{puts_text}
use Rattle.table.specs.AtomText.{atom_text_of}
use Rattle.trees.specs.Checker.{trees_of}
use Rattle.report.specs.Output.{reasons_text}
use Rattle.report.proofs.Putting.{puts_over}
use Rattle.report.proofs.Lent.{whys_short, whys_other}
use Rattle.table.proofs.Atoms.{kept_none}
use Rattle.report.proofs.Reporting.{told_not_loaded, refused_text, refused_none, loaded_some, loaded_text, loaded_given}
use borrow.Author.Rules.{rules}
use Rattle.report.proofs.why.Goals as goal

pub returns-in_default : goal.returns-in_default
returns-in_default c =
    let load = c.load-loaded.ensures in
    let other = told_not_loaded _ (opened c.in_default.in_default-own.keys2) in
    whys_short refl (refused_none _ _ _ load trees_of other) (c.no_texts-atoms.ensures ∙ kept_none _ (λ which. refused_none _ _ _ load (λ fs. atom_text_of fs which) other)) refl
    (puts_over _ _ _ _ (puts_text (refused_text _ _ _ load reasons_text other) c.put_refusal-len.ensures))

pub put_why-requires : goal.put_why-requires
put_why-requires c = (c.load-loaded.ensures.from_us, loaded_some _ _ _ c.load-loaded.ensures c.in-Loaded.is, search rules, search rules, search rules)

pub returns : goal.returns
returns c =
    let load = c.load-loaded.ensures in
    let good = c.in-Loaded.is in
    whys_other (loaded_text _ _ _ load good reasons_text) (loaded_given _ _ _ load good trees_of) (fun_ext (λ which. loaded_given _ _ _ load good (λ fs. atom_text_of fs which))) c.put_why.ensures
