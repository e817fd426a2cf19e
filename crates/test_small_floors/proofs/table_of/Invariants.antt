-- `test_small_floors::table_of` meets its contract: the empty table is from us, as is each that add gives back. Assumes nothing.
use Rattle.table.specs.Calls.{FromUs}
use Rattle.test_small_floors.proofs.table_of.Given as goal

abbrev pub invariant-loop-line : goal.invariant-loop-line
invariant-loop-line l = FromUs l.table
