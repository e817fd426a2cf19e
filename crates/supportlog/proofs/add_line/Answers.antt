-- `supportlog::add_line` meets its contract. Assumes nothing.
use Rattle.supportlog.proofs.Lining.{added_runs}
use Rattle.supportlog.proofs.add_line.Goals as goal

pub returns : goal.returns
returns c = added_runs _ _ _ _ _ c.add-given.ensures c.add_outcome-said.ensures c.line_says-answer.ensures
