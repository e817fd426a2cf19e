-- `exercises::is_whole` meets its contract. Assumes nothing.
use mathlib.Core.Path.{◌∙◌}
use Rattle.exercises.proofs.Judging.{is_whole}
use Rattle.exercises.proofs.is_whole.Goals as goal

pub returns : goal.returns
returns c = c.is_ok.ensures.value ∙ is_whole _ _ c.judged.ensures
