-- `pairing::sums_eight` meets its contract, by the law of sums. Assumes nothing.
use mathlib.Core.Path.{refl, ◌∙◌}
use native.Mathlib.Omega.{arith}
use Rattle.pairing.proofs.Subsets.{sums_step}
use Rattle.pairing.proofs.sums_eight.Goals as goal

pub sums_seven-requires-2 : goal.sums_seven-requires-2
sums_seven-requires-2 c = (c.sums_seven.ensures.long ∙ c.requires.0, omega arith)

pub half-requires : goal.half-requires
half-requires c = (c.sums_seven-2.ensures.long ∙ c.sums_seven.ensures.long ∙ c.requires.0, omega arith)

pub returns : goal.returns
returns c = sums_step 7 128 _ refl _ _ _ _ c.sums_seven.ensures c.sums_seven-2.ensures c.half.ensures
