-- `table::clash_outcome` meets its contract: each arm knows its answer, whose outcome the definition gives. Assumes nothing.
use mathlib.Core.Path.{sym, ap}
use Rattle.table.specs.Numbers.{clash_outcome}
use Rattle.table.proofs.clash_outcome.Goals as goal

pub returns-in-Clash : goal.returns-in-Clash
returns-in-Clash c = sym (ap clash_outcome c.in-Clash.is)

pub returns-in-ShortBuffer : goal.returns-in-ShortBuffer
returns-in-ShortBuffer c = sym (ap clash_outcome c.in-ShortBuffer.is)
