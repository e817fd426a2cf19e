-- `table::Table::known` meets its contract: so far the first i texts are known (Recount.antt). Assumes nothing.
use Prim.Native.Nat.{◌-◌}
use Rattle.table.proofs.Recount.{KnownTo}
use Rattle.table.proofs.Table.known.Given as goal

abbrev pub invariant-loop-i : goal.invariant-loop-i
invariant-loop-i l = KnownTo l.self l.known l.kept l.i
