-- `test_examples::show_log` is safe and ends: the table came from us, and each piece goes on to a later place. Assumes nothing.
use Prim.Native.Nat.{◌-◌}
use lib.ListN.{length}
use Rattle.table.specs.Calls.{FromUs}
use Rattle.test_examples.proofs.show_log.Given as goal

abbrev pub invariant-loop-state : goal.invariant-loop-state
invariant-loop-state g l = FromUs l.state.table

abbrev pub decreases-loop-state : goal.decreases-loop-state
decreases-loop-state g l = length l.log - l.state.from
