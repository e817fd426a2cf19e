-- `table::verdict_answer` meets its contract: each arm knows the verdict, whose answer the definition gives. Assumes nothing.
use mathlib.Core.Path.{sym, ap}
use Rattle.table.specs.Explaining.{verdict_answer}
use Rattle.table.proofs.verdict_answer.Goals as goal

pub returns-in-Err : goal.returns-in-Err
returns-in-Err c = sym (ap verdict_answer c.in-Err.is)
