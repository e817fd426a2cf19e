-- `supportlog::remark_line` meets its contract: what is put at the first byte is over the buffer. Assumes nothing.
use Rattle.report.proofs.Putting.{puts_over}
use Rattle.supportlog.proofs.remark_line.Goals as goal

pub returns : goal.returns
returns c = puts_over _ _ _ _ c.put_remark.ensures
