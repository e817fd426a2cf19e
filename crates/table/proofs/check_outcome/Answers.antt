-- `table::check_outcome` meets its contract: each arm knows its answer, whose outcome the definition gives. Assumes nothing.
use mathlib.Core.Path.{sym, ap}
use Rattle.table.specs.Numbers.{check_outcome}
use Rattle.table.proofs.check_outcome.Goals as goal

pub returns-in-NotClosed : goal.returns-in-NotClosed
returns-in-NotClosed c = sym (ap check_outcome c.in-NotClosed.is)
