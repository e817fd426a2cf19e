-- `pairing::sums_two` meets its contract, by the law of sums. Assumes nothing.
use mathlib.Core.Path.{refl, ◌∙◌}
use native.Mathlib.Omega.{arith}
use Rattle.pairing.proofs.Subsets.{sums_step}
use Rattle.pairing.proofs.sums_two.Goals as goal

pub sums_one-requires-2 : goal.sums_one-requires-2
sums_one-requires-2 c = (c.sums_one.ensures.long ∙ c.requires.0, omega arith)

pub half-requires : goal.half-requires
half-requires c = (c.sums_one-2.ensures.long ∙ c.sums_one.ensures.long ∙ c.requires.0, omega arith)

pub returns : goal.returns
returns c = sums_step 1 2 _ refl _ _ _ _ c.sums_one.ensures c.sums_one-2.ensures c.half.ensures
