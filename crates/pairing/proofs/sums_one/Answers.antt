-- `pairing::sums_one` meets its contract, by the law of sums. Assumes nothing.
use mathlib.Core.Path.{refl}
use Rattle.pairing.proofs.Subsets.{sums_zero, sums_step}
use Rattle.pairing.proofs.sums_one.Goals as goal

pub returns : goal.returns
returns c = sums_step 0 1 _ refl _ _ _ _ (sums_zero _ _) (sums_zero _ _) c.half.ensures
