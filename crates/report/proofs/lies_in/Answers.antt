-- `report::lies_in` meets its contract: bit i by a shift. Assumes nothing.
use mathlib.Core.Path.{refl}
use Rattle.evalset.specs.Bit.{bit}
use Rattle.report.proofs.lies_in.Goals as goal

pub returns : goal.returns
unfolding bit
returns c = refl
