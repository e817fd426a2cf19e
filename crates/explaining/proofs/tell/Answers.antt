-- `explaining::tell` meets its contract: of at most ten atoms there are 2,047 rows of first atoms, and of sixteen 131,071. Assumes nothing.
use native.Mathlib.Omega.{arith}
use lib.Pow.{pow_mono}
use Rattle.solver.proofs.Root.{unseen}
use Rattle.explaining.proofs.Puts.{tells}
use Rattle.explaining.proofs.tell.Goals as goal

pub check_rows-requires : goal.check_rows-requires
check_rows-requires c =
    let few = pow_mono {i = c.args.chart.atoms} {j = 10} (omega arith) in
    (c.requires.0.atoms_fit, unseen _ 16 (omega (arith, few)), omega (arith, few), (unseen c.args.chart 32 (omega (arith, few))).none)

pub write_tree-requires : goal.write_tree-requires
write_tree-requires c =
    let few = pow_mono {i = c.args.chart.atoms} {j = 10} (omega arith) in
    (c.requires.0.safe, c.requires.1, c.requires.0.atoms_fit, omega (arith, few, c.check_rows.ensures.0))

pub returns-then-chart-le10 : goal.returns-then-chart-le10
returns-then-chart-le10 c = tells _ _ _ _ _ _ _ c.check_rows.ensures.1 c.write_tree.ensures

pub check_rows-requires-2 : goal.check_rows-requires-2
check_rows-requires-2 c =
    let few = pow_mono {i = c.args.chart.atoms} {j = 16} c.requires.0.atoms_fit in
    (c.requires.0.atoms_fit, unseen _ 1024 (omega (arith, few)), omega (arith, few), (unseen c.args.chart 2048 (omega (arith, few))).none)

pub write_tree-requires-2 : goal.write_tree-requires-2
write_tree-requires-2 c =
    let few = pow_mono {i = c.args.chart.atoms} {j = 16} c.requires.0.atoms_fit in
    (c.requires.0.safe, c.requires.1, c.requires.0.atoms_fit, omega (arith, few, c.check_rows-2.ensures.0))

pub returns : goal.returns
returns c = tells _ _ _ _ _ _ _ c.check_rows-2.ensures.1 c.write_tree-2.ensures
