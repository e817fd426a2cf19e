-- `test_remarks::show_log` is safe and ends: the table came from us, each piece goes on to a later place, and no line has a number above its
-- place. Assumes nothing.
use Prim.Native.Nat.{◌-◌, ◌≤◌}
use lib.ListN.{length}
use Rattle.table.specs.Calls.{FromUs}
use Rattle.test_remarks.proofs.show_log.Given as goal

abbrev pub invariant-loop-state : goal.invariant-loop-state
invariant-loop-state g l = FromUs l.state.table × (l.count ≤ l.state.from)

abbrev pub decreases-loop-state : goal.decreases-loop-state
decreases-loop-state g l = length l.log - l.state.from
