-- `pairing::sums_four` meets its contract, by the law of sums. Assumes nothing.
use mathlib.Core.Path.{refl, ◌∙◌}
use native.Mathlib.Omega.{arith}
use Rattle.pairing.proofs.Subsets.{sums_step}
use Rattle.pairing.proofs.sums_four.Goals as goal

pub sums_three-requires-2 : goal.sums_three-requires-2
sums_three-requires-2 c = (c.sums_three.ensures.long ∙ c.requires.0, omega arith)

pub half-requires : goal.half-requires
half-requires c = (c.sums_three-2.ensures.long ∙ c.sums_three.ensures.long ∙ c.requires.0, omega arith)

pub returns : goal.returns
returns c = sums_step 3 8 _ refl _ _ _ _ c.sums_three.ensures c.sums_three-2.ensures c.half.ensures
