-- `explaining::some_floor` meets its contract: it reads one bit. Assumes nothing.
use mathlib.Core.Path.{refl}
use Rattle.evalset.specs.Bit.{bit}
use Rattle.explaining.proofs.some_floor.Goals as goal

pub returns : goal.returns
unfolding bit
returns c = refl
