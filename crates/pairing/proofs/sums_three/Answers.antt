-- `pairing::sums_three` meets its contract, by the law of sums. Assumes nothing.
use mathlib.Core.Path.{refl, ◌∙◌}
use native.Mathlib.Omega.{arith}
use Rattle.pairing.proofs.Subsets.{sums_step}
use Rattle.pairing.proofs.sums_three.Goals as goal

pub sums_two-requires-2 : goal.sums_two-requires-2
sums_two-requires-2 c = (c.sums_two.ensures.long ∙ c.requires.0, omega arith)

pub half-requires : goal.half-requires
half-requires c = (c.sums_two-2.ensures.long ∙ c.sums_two.ensures.long ∙ c.requires.0, omega arith)

pub returns : goal.returns
returns c = sums_step 2 4 _ refl _ _ _ _ c.sums_two.ensures c.sums_two-2.ensures c.half.ensures
