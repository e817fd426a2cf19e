-- `table::Table::atom` meets its contract: the rules are compiled into the smaller or the larger room, and the text is by them. Assumes
-- nothing.
use Prim.Native.Nat.{ℕ}
use native.Mathlib.Omega.{arith}
use lib.ListN.{length-replicate}
use Rattle.table.proofs.Lines.{count_few}
use Rattle.table.proofs.Table.atom.Goals as goal

pub compiled-c-requires-2 : goal.compiled-c-requires-2
compiled-c-requires-2 c =
    let pre = c.requires in
    (pre, omega arith, omega (arith, count_few _ pre, length-replicate {A = ℕ} 4096 0))
