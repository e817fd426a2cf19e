-- `exercises::awaiting` meets its contract: the last token says it. Assumes nothing.
use mathlib.Core.Path.{◌∙◌}
use Rattle.exercises.proofs.Next.{awaits_first, awaits_behind}
use Rattle.exercises.proofs.awaiting.Goals as goal

pub returns-then-n-eq0 : goal.returns-then-n-eq0
returns-then-n-eq0 c = awaits_first _ c.if-n-eq0.true

pub returns-else-n-eq0 : goal.returns-else-n-eq0
returns-else-n-eq0 c = c.awaits.ensures ∙ awaits_behind c.args.ks.now c.if-n-eq0.false
