-- `supportlog::withdraw_line` meets its contract. Assumes nothing.
use Rattle.supportlog.proofs.Lining.{withdrawn_runs}
use Rattle.supportlog.proofs.withdraw_line.Goals as goal

pub returns : goal.returns
returns c = withdrawn_runs _ _ _ _ _ c.withdraw-given.ensures c.withdraw_outcome-said.ensures c.line_says-answer.ensures
