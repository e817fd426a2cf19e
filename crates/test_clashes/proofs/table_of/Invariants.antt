-- `test_clashes::table_of` meets its contract: the empty table is from us, as is each that add gives back, and a rule starts where it has been
-- read. Assumes nothing.
use Rattle.std.proofs.Common.{◌≤◌}
use Rattle.table.specs.Calls.{FromUs}
use Rattle.test_clashes.proofs.table_of.Given as goal

abbrev pub invariant-loop-i : goal.invariant-loop-i
invariant-loop-i g l = FromUs l.table × (l.start ≤ l.i)
