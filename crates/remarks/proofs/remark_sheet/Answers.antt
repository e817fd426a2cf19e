-- `remarks::remark_sheet` meets its contract: the remark is that of load's answer. Assumes nothing.
use mathlib.Core.Path.{ap}
use Rattle.lists.proofs.Putting.{puts_text}
use Rattle.report.proofs.Putting.{puts_over}
use Rattle.report.proofs.Reporting.{answer_is}
use Rattle.remarks.specs.Remark.{remark_of}
use Rattle.remarks.proofs.remark_sheet.Goals as goal

pub returns : goal.returns
returns c = puts_over _ _ _ _ (puts_text (ap (remark_of c.args.sheet.now) (answer_is _ _ _ c.load-loaded.ensures)) c.put_answer.ensures)
