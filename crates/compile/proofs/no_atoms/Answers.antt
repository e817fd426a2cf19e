-- `compile::no_atoms` meets its contract: the arrays are of one value, and there is no atom. Assumes nothing.
use mathlib.Core.Path.{refl}
use Rattle.compile.proofs.Charts.{compiled_none}
use Rattle.compile.proofs.no_atoms.Goals as goal

pub returns : goal.returns
returns c = (refl, compiled_none _ c.empty-none.result c.empty-none.ensures refl refl refl refl)
