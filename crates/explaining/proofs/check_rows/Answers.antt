-- `explaining::check_rows` meets its contract: at most four names have 16 evaluations and 136 pairs, six 64 and 2,080, and eight 256 and 32,896. Assumes nothing.
use native.Mathlib.Omega.{arith}
use Rattle.pairing.specs.Listed.{pair_count}
use Rattle.solver.proofs.Root.{pairs_few}
use Rattle.explaining.proofs.check_rows.Goals as goal

pub check_all-requires : goal.check_all-requires
unfolding pair_count
check_all-requires c =
    (c.requires.0, record { unseen = c.requires.1; places = omega (arith, pairs_few c.args.chart.names 4 (omega arith)) }, c.requires.2, c.requires.3)

pub check_all-requires-then-chart-le6 : goal.check_all-requires-then-chart-le6
unfolding pair_count
check_all-requires-then-chart-le6 c =
    (c.requires.0, record { unseen = c.requires.1; places = omega (arith, pairs_few c.args.chart.names 6 (omega arith)) }, c.requires.2, c.requires.3)

pub check_all-requires-2 : goal.check_all-requires-2
unfolding pair_count
check_all-requires-2 c =
    (c.requires.0, record { unseen = c.requires.1; places = omega (arith, pairs_few c.args.chart.names 8 (omega arith)) }, c.requires.2, c.requires.3)
