-- `exercises::kind` meets its contract: its table has the number of each token. Assumes nothing.
use Rattle.exercises.proofs.Tables.{kind_right}
use Rattle.exercises.proofs.kind.Goals as goal

pub returns : goal.returns
returns c = kind_right c.place.result c.args.k c.place.ensures.0 c.place.ensures.1
