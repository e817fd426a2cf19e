-- `table::Table::clashed` meets its contract: the rules are compiled into the smaller or the larger room, with as much room for those that are
-- left, and which clash is found of them. Assumes nothing.
use Prim.Native.Nat.{ℕ}
use native.Mathlib.Omega.{arith}
use lib.ListN.{length-replicate}
use Rattle.table.proofs.Lines.{count_few}
use Rattle.table.proofs.Table.clashed.Goals as goal

pub compiled-c-requires-2 : goal.compiled-c-requires-2
compiled-c-requires-2 c =
    let pre = c.requires in
    (pre.0, pre.1, omega (arith, count_few _ pre.0, pre.1, length-replicate {A = ℕ} 4096 0))
