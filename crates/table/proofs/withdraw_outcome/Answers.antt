-- `table::withdraw_outcome` meets its contract: each arm knows its answer, whose outcome the definition gives. Assumes nothing.
use mathlib.Core.Path.{sym, ap}
use Rattle.table.specs.Numbers.{withdraw_outcome}
use Rattle.table.proofs.withdraw_outcome.Goals as goal

pub returns-in-NoSuchRule : goal.returns-in-NoSuchRule
returns-in-NoSuchRule c = sym (ap withdraw_outcome c.in-NoSuchRule.is)
