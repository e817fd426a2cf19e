-- `trees::check_tree` meets its contract: no word was seen, and of at most ten atoms there are 1,024 words. Assumes nothing.
use native.Mathlib.Omega.{arith}
use lib.Pow.{pow_mono}
use Rattle.solver.proofs.Root.{unseen}
use Rattle.trees.proofs.check_tree.Goals as goal

pub listed-requires : goal.listed-requires
listed-requires c =
    (c.requires, unseen _ 16 (omega (arith, pow_mono {i = c.args.chart.atoms} {j = 10} (omega arith))))

pub listed-requires-2 : goal.listed-requires-2
listed-requires-2 c =
    (c.requires, unseen _ 1024 (omega (arith, pow_mono {i = c.args.chart.atoms} {j = 16} c.requires.atoms_fit)))
