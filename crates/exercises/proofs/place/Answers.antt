-- `exercises::place` meets its contract: a number that is none of the tokens' is read as the first. Assumes nothing.
use native.Mathlib.Omega.{arith}
use Rattle.exercises.proofs.Tables.{entry_past}
use Rattle.exercises.proofs.place.Goals as goal

pub returns-else-k-lt20 : goal.returns-else-k-lt20
returns-else-k-lt20 c = (omega arith, entry_past _ (omega arith))
