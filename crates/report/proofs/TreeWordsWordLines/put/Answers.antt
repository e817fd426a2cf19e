-- `TreeWords::put` of report meets its contract: the line of the word that stands at the index, at its depth (Reasons.antt). Assumes nothing.
use Rattle.lists.proofs.Putting.{puts_text}
use Rattle.report.proofs.Reasons.{line_is}
use Rattle.report.proofs.TreeWordsWordLines.put.Goals as goal

pub returns : goal.returns
returns c = puts_text (line_is _ _ _ c.args.i _ _ c.word_at-word.ensures c.depth_at-depth.ensures) c.put_reason.ensures
