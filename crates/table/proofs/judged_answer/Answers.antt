-- `table::judged_answer` meets its contract: each arm knows the judgement, whose answer the definition gives. Assumes nothing.
use mathlib.Core.Path.{sym, ap}
use Rattle.table.specs.Steps.{judged_answer}
use Rattle.table.proofs.judged_answer.Goals as goal

pub returns-in-Unmet : goal.returns-in-Unmet
returns-in-Unmet c = sym (ap judged_answer c.in-Unmet.is)
