-- `exercises::awaits` meets its contract: its table has it of each token. Assumes nothing.
use Rattle.exercises.proofs.Tables.{awaits_right}
use Rattle.exercises.proofs.awaits.Goals as goal

pub returns : goal.returns
returns c = awaits_right c.place.result c.args.k c.place.ensures.0 c.place.ensures.1
