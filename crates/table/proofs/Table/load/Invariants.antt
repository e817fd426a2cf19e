-- `table::Table::load` meets its contract: so far each line is judged and those that are not blank are held, the last one put in its place; a refused line ends the load, and the old table comes back. Assumes nothing.
use Prim.Native.Nat.{◌+◌, ◌-◌}
use lib.ListN.{length}
use Rattle.table.proofs.Loading.{Progress}
use Rattle.table.proofs.Table.load.Given as goal

abbrev pub invariant-loop-from : goal.invariant-loop-from
invariant-loop-from l = Progress l.file l.table l.known l.symbols l.line l.from

abbrev pub decreases-loop-from : goal.decreases-loop-from
decreases-loop-from l = length l.file + 1 - l.from
