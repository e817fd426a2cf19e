-- `trees::listed` meets its contract: at most four names have 16 evaluations and 136 pairs, six 64 and 2,080, and eight 256 and 32,896. Assumes nothing.
use native.Mathlib.Omega.{arith}
use Rattle.pairing.specs.Listed.{pair_count}
use Rattle.solver.proofs.Root.{pairs_few}
use Rattle.trees.proofs.listed.Goals as goal

pub judged-requires : goal.judged-requires
unfolding pair_count
judged-requires c =
    (c.requires.0, record { unseen = c.requires.1; places = omega (arith, pairs_few c.args.chart.names 4 (omega arith)) })

pub judged-requires-then-chart-le6 : goal.judged-requires-then-chart-le6
unfolding pair_count
judged-requires-then-chart-le6 c =
    (c.requires.0, record { unseen = c.requires.1; places = omega (arith, pairs_few c.args.chart.names 6 (omega arith)) })

pub judged-requires-2 : goal.judged-requires-2
unfolding pair_count
judged-requires-2 c =
    (c.requires.0, record { unseen = c.requires.1; places = omega (arith, pairs_few c.args.chart.names 8 (omega arith)) })
