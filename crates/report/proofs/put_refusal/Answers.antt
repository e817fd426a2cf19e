-- `report::put_refusal` meets its contract: the line of a refusal, and nothing for another outcome. Assumes nothing.
use borrow.Enum.Refused.{opened}
use mathlib.Core.Path.{sym, ap, ◌∙◌}
use native.Mathlib.Omega.{arith}
use Rattle.lists.proofs.Putting.{puts_none, puts_text}
use Rattle.report.specs.Output.{outcome_text}
use Rattle.report.proofs.Reporting.{no_refusal_text}
use Rattle.report.proofs.put_refusal.Goals as goal

pub returns-in_default : goal.returns-in_default
returns-in_default c =
    let a = c.args in
    puts_text (sym (no_refusal_text c.load_outcome-said.result (opened c.in_default.in_default-own.keys2)) ∙ ap outcome_text c.load_outcome-said.ensures) (puts_none a.at a.out.now (omega (arith, c.requires)))

pub returns : goal.returns
returns c =
    puts_text (ap outcome_text (sym c.in-RefusedLine.is ∙ c.load_outcome-said.ensures)) c.put_refused.ensures
