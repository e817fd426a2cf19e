-- `printing::rows` meets its contract by computation. Assumes nothing.
use mathlib.Core.Path.{refl}
use Rattle.printing.specs.Jobs.{table}
use Rattle.printing.proofs.rows.Goals as goal

pub returns : goal.returns
unfolding table
returns c = refl
