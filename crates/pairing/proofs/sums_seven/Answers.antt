-- `pairing::sums_seven` meets its contract, by the law of sums. Assumes nothing.
use mathlib.Core.Path.{refl, ◌∙◌}
use native.Mathlib.Omega.{arith}
use Rattle.pairing.proofs.Subsets.{sums_step}
use Rattle.pairing.proofs.sums_seven.Goals as goal

pub sums_six-requires-2 : goal.sums_six-requires-2
sums_six-requires-2 c = (c.sums_six.ensures.long ∙ c.requires.0, omega arith)

pub half-requires : goal.half-requires
half-requires c = (c.sums_six-2.ensures.long ∙ c.sums_six.ensures.long ∙ c.requires.0, omega arith)

pub returns : goal.returns
returns c = sums_step 6 64 _ refl _ _ _ _ c.sums_six.ensures c.sums_six-2.ensures c.half.ensures
