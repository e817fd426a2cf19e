-- `supportlog::ask_line` meets its contract. Assumes nothing.
use Rattle.supportlog.proofs.Lining.{asked_runs}
use Rattle.supportlog.proofs.ask_line.Goals as goal

pub returns : goal.returns
returns c = asked_runs _ _ _ _ _ _ c.ask-given.ensures c.ask_outcome-said.ensures c.line_says-answer.ensures
