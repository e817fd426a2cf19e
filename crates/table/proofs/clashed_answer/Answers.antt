-- `table::clashed_answer` meets its contract: each arm knows what was found, whose answer the definition gives. Assumes nothing.
use mathlib.Core.Path.{sym, ap}
use Rattle.table.specs.Clashing.{clashed_answer}
use Rattle.table.proofs.clashed_answer.Goals as goal

pub returns-in-Ok : goal.returns-in-Ok
returns-in-Ok c = sym (ap clashed_answer c.in-Ok.is)
