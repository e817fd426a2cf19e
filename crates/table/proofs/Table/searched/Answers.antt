-- `table::Table::searched` meets its contract: the rules are compiled into the smaller or the larger room, and their first row is found. Assumes
-- nothing.
use Prim.Native.Nat.{ℕ}
use native.Mathlib.Omega.{arith}
use lib.ListN.{length-replicate}
use Rattle.table.proofs.Lines.{count_few}
use Rattle.table.proofs.Table.searched.Goals as goal

pub compiled-compiled-requires-2 : goal.compiled-compiled-requires-2
compiled-compiled-requires-2 c =
    let pre = c.requires in
    (pre.0, pre.1, omega (arith, count_few _ pre.0, pre.1, length-replicate {A = ℕ} 4096 0))
