-- `supportlog::put_hex` meets its contract: a blank and two halves. Assumes nothing.
use Rattle.lists.proofs.Putting.{puts_more}
use Rattle.supportlog.proofs.put_hex.Goals as goal

pub returns : goal.returns
returns c = puts_more (puts_more c.put_text-end.ensures c.put_half-end.ensures) c.put_half.ensures
