-- `pairing::sums_ten` meets its contract, by the law of sums. Assumes nothing.
use mathlib.Core.Path.{refl, ◌∙◌}
use native.Mathlib.Omega.{arith}
use Rattle.pairing.proofs.Subsets.{sums_step}
use Rattle.pairing.proofs.sums_ten.Goals as goal

pub sums_nine-requires-2 : goal.sums_nine-requires-2
sums_nine-requires-2 c = (c.sums_nine.ensures.long ∙ c.requires.0, omega arith)

pub half-requires : goal.half-requires
half-requires c = (c.sums_nine-2.ensures.long ∙ c.sums_nine.ensures.long ∙ c.requires.0, omega arith)

pub returns : goal.returns
returns c = sums_step 9 512 _ refl _ _ _ _ c.sums_nine.ensures c.sums_nine-2.ensures c.half.ensures
