-- `report::put_report` meets its contract: the sheet is loaded or refused, and each has its text (Reporting.antt). Assumes nothing.
use borrow.Enum.Refused.{opened}
use mathlib.Core.Path.{refl, sym, ap, ◌∙◌}
use Rattle.contact.specs.Numbering.{names_of}
use Rattle.names.specs.Gather.{arrays_of}
use Rattle.plan.specs.Plans.{plans_of}
use Rattle.lists.proofs.Putting.{puts_text}
use Rattle.search.specs.Asked.{question_of}
use Rattle.report.specs.Output.{rules_text}
use Rattle.report.proofs.Putting.{puts_over}
use Rattle.report.proofs.Lent.{tells_short, tells_other}
use Rattle.report.proofs.Reporting.{told_not_loaded, refused_text, refused_none, loaded_some, loaded_text, loaded_given}
use Rattle.report.proofs.put_report.Goals as goal

pub returns-in_default : goal.returns-in_default
returns-in_default c =
    let load = c.load-loaded.ensures in
    let q = question_of c.args.asked in
    let other = told_not_loaded _ (opened c.in_default.in_default-own.keys2) in
    tells_short refl (refused_none _ _ _ load (plans_of q) other) (c.no_names-names.ensures ∙ ap arrays_of (sym (refused_none _ _ _ load names_of other))) refl
    (puts_over _ _ _ _ (puts_text (refused_text _ _ _ load (rules_text q) other) c.put_refusal-len.ensures))

pub put_rules-requires : goal.put_rules-requires
put_rules-requires c =
    let load = c.load-loaded.ensures in
    (load.from_us, loaded_some _ _ _ load c.in-Loaded.is, c.requires.0, c.requires.1)

pub returns : goal.returns
returns c =
    let load = c.load-loaded.ensures in
    let q = question_of c.args.asked in
    let good = c.in-Loaded.is in
    tells_other (loaded_text _ _ _ load good (rules_text q)) (loaded_given _ _ _ load good (plans_of q)) (loaded_given _ _ _ load good names_of) c.put_rules.ensures
