-- `test_kit::put_byte` meets its contract: at the end and behind it there is no room. Assumes nothing.
use Rattle.test_kit.proofs.Putting.{puts_out}
use Rattle.test_kit.proofs.put_byte.Goals as goal

pub returns : goal.returns
returns c = puts_out _ _ _ c.if-at-text.false
