-- `test_kit::put_word` meets its contract: at the end and behind it there is no room. Assumes nothing.
use Rattle.test_kit.proofs.Putting.{puts_out}
use Rattle.test_kit.proofs.put_word.Goals as goal

pub returns : goal.returns
returns c = puts_out _ _ _ c.if-at-words.false
