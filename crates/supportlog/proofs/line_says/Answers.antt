-- `supportlog::line_says` meets its contract: a plan, no plan and a refusal are told apart, and any other outcome is what is done. Assumes nothing.
use borrow.Enum.Refused.{opened}
use mathlib.Core.Path.{sym, ap}
use Rattle.supportlog.specs.Run.{line_says}
use Rattle.supportlog.proofs.Lining.{told_done}
use Rattle.supportlog.proofs.line_says.Goals as goal

pub returns-in-Plan : goal.returns-in-Plan
returns-in-Plan c = sym (ap (line_says _) c.in-Plan.is)

pub returns-in-Refused : goal.returns-in-Refused
returns-in-Refused c = sym (ap (line_says _) c.in-Refused.is)

pub returns-in-RefusedLine : goal.returns-in-RefusedLine
returns-in-RefusedLine c = sym (ap (line_says _) c.in-RefusedLine.is)

pub returns-in_default : goal.returns-in_default
returns-in_default c = told_done c.args.done c.args.said (opened c.in_default.in_default-own.keys5)
