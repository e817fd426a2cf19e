-- `pairing::sums_six` meets its contract, by the law of sums. Assumes nothing.
use mathlib.Core.Path.{refl, ◌∙◌}
use native.Mathlib.Omega.{arith}
use Rattle.pairing.proofs.Subsets.{sums_step}
use Rattle.pairing.proofs.sums_six.Goals as goal

pub sums_five-requires-2 : goal.sums_five-requires-2
sums_five-requires-2 c = (c.sums_five.ensures.long ∙ c.requires.0, omega arith)

pub half-requires : goal.half-requires
half-requires c = (c.sums_five-2.ensures.long ∙ c.sums_five.ensures.long ∙ c.requires.0, omega arith)

pub returns : goal.returns
returns c = sums_step 5 32 _ refl _ _ _ _ c.sums_five.ensures c.sums_five-2.ensures c.half.ensures
