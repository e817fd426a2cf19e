-- `table::judge_outcome` meets its contract: each arm knows its answer, whose outcome the definition gives. Assumes nothing.
use mathlib.Core.Path.{sym, ap}
use Rattle.table.specs.Numbers.{judge_outcome}
use Rattle.table.proofs.judge_outcome.Goals as goal

pub returns-in-Unmet : goal.returns-in-Unmet
returns-in-Unmet c = sym (ap judge_outcome c.in-Unmet.is)

pub returns-in-NotAPlan : goal.returns-in-NotAPlan
returns-in-NotAPlan c = sym (ap judge_outcome c.in-NotAPlan.is)

pub returns-in-NamesDiffer : goal.returns-in-NamesDiffer
returns-in-NamesDiffer c = sym (ap judge_outcome c.in-NamesDiffer.is)
