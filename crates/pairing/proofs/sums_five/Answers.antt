-- `pairing::sums_five` meets its contract, by the law of sums. Assumes nothing.
use mathlib.Core.Path.{refl, ◌∙◌}
use native.Mathlib.Omega.{arith}
use Rattle.pairing.proofs.Subsets.{sums_step}
use Rattle.pairing.proofs.sums_five.Goals as goal

pub sums_four-requires-2 : goal.sums_four-requires-2
sums_four-requires-2 c = (c.sums_four.ensures.long ∙ c.requires.0, omega arith)

pub half-requires : goal.half-requires
half-requires c = (c.sums_four-2.ensures.long ∙ c.sums_four.ensures.long ∙ c.requires.0, omega arith)

pub returns : goal.returns
returns c = sums_step 4 16 _ refl _ _ _ _ c.sums_four.ensures c.sums_four-2.ensures c.half.ensures
