-- `supportlog::put_plan` meets its contract: the parts of the line, one after the other. Assumes nothing.
use Rattle.lists.proofs.Putting.{puts_more}
use Rattle.supportlog.proofs.put_plan.Goals as goal

pub returns : goal.returns
returns c = puts_more (puts_more c.put_text-end.ensures c.put_words-end.ensures.0) c.put_text.ensures
