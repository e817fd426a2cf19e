-- `clashes::clash` meets its contract: what is put at the first byte is over the buffer. Assumes nothing.
use Rattle.report.proofs.Putting.{puts_over}
use Rattle.clashes.proofs.clash.Goals as goal

pub returns : goal.returns
returns c = puts_over _ _ _ _ c.put_sheet.ensures
