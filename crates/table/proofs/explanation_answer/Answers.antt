-- `table::explanation_answer` meets its contract: each arm knows what the writer said, whose answer the definition gives. Assumes nothing.
use mathlib.Core.Path.{sym, ap}
use Rattle.table.specs.Explaining.{explanation_answer}
use Rattle.table.proofs.explanation_answer.Goals as goal

pub returns-in-Ok : goal.returns-in-Ok
returns-in-Ok c = sym (ap explanation_answer c.in-Ok.is)
