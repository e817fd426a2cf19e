-- `table::Table::names` meets its contract: so far the names are those of the first i texts. Assumes nothing.
use Prim.Native.Nat.{◌-◌}
use Rattle.table.proofs.Recount.{NamedTo}
use Rattle.table.proofs.Table.names.Given as goal

abbrev pub invariant-loop-i : goal.invariant-loop-i
invariant-loop-i l = NamedTo l.self l.names l.i
