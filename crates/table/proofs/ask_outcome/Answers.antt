-- `table::ask_outcome` meets its contract: each arm knows its answer, whose outcome the definition gives. Assumes nothing.
use mathlib.Core.Path.{sym, ap}
use Rattle.table.specs.Numbers.{ask_outcome}
use Rattle.table.proofs.ask_outcome.Goals as goal

pub returns-in-Plan : goal.returns-in-Plan
returns-in-Plan c = sym (ap ask_outcome c.in-Plan.is)

pub returns-in-ShortBuffer : goal.returns-in-ShortBuffer
returns-in-ShortBuffer c = sym (ap ask_outcome c.in-ShortBuffer.is)
