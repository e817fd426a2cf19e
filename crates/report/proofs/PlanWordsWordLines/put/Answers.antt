-- `PlanWords::put` of report meets its contract: the line of the word that stands at the index. Assumes nothing.
use mathlib.Core.Path.{ap}
use Rattle.lists.proofs.Putting.{puts_text}
use Rattle.names.specs.Gather.{known_of}
use Rattle.report.specs.Pieces.{plan_line, plan_line_at}
use Rattle.report.proofs.PlanWordsWordLines.put.Goals as goal

pub returns : goal.returns
unfolding plan_line_at
returns c = puts_text (ap (plan_line (known_of c.args.self.now.names) c.args.i) c.word_at-word.ensures) c.put_word.ensures
