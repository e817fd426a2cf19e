-- `pairing::sums_nine` meets its contract, by the law of sums. Assumes nothing.
use mathlib.Core.Path.{refl, ◌∙◌}
use native.Mathlib.Omega.{arith}
use Rattle.pairing.proofs.Subsets.{sums_step}
use Rattle.pairing.proofs.sums_nine.Goals as goal

pub sums_eight-requires-2 : goal.sums_eight-requires-2
sums_eight-requires-2 c = (c.sums_eight.ensures.long ∙ c.requires.0, omega arith)

pub half-requires : goal.half-requires
half-requires c = (c.sums_eight-2.ensures.long ∙ c.sums_eight.ensures.long ∙ c.requires.0, omega arith)

pub returns : goal.returns
returns c = sums_step 8 256 _ refl _ _ _ _ c.sums_eight.ensures c.sums_eight-2.ensures c.half.ensures
