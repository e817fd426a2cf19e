-- `report::as_read` meets its contract: what is put at the first byte is over the buffer. Assumes nothing.
use Rattle.report.proofs.Putting.{puts_over}
use Rattle.report.proofs.as_read.Goals as goal

pub returns : goal.returns
returns c = puts_over _ _ _ _ c.put_as_read.ensures
