-- `table::on_line` meets its contract: a refusal gets the line, and every other outcome is the same on it. Assumes nothing.
use borrow.Enum.Refused.{opened}
use mathlib.Core.Path.{sym, ap}
use Rattle.table.specs.Numbers.{on_line}
use Rattle.table.proofs.Refusals.{told_other}
use Rattle.table.proofs.on_line.Goals as goal

pub returns-in-Refused : goal.returns-in-Refused
returns-in-Refused c = sym (ap (on_line _) c.in-Refused.is)

pub returns-in_default : goal.returns-in_default
returns-in_default c = told_other _ _ (opened c.in_default.in_default-own.keys2)
