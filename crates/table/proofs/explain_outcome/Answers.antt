-- `table::explain_outcome` meets its contract: each arm knows its answer, whose outcome the definition gives. Assumes nothing.
use mathlib.Core.Path.{sym, ap}
use Rattle.table.specs.Numbers.{explain_outcome}
use Rattle.table.proofs.explain_outcome.Goals as goal

pub returns-in-Tree : goal.returns-in-Tree
returns-in-Tree c = sym (ap explain_outcome c.in-Tree.is)

pub returns-in-ShortBuffer : goal.returns-in-ShortBuffer
returns-in-ShortBuffer c = sym (ap explain_outcome c.in-ShortBuffer.is)
