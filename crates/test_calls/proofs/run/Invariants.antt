-- `test_calls::run` is safe and ends: the table came from us, by the call before, and the bytes left fall. Assumes nothing.
use Prim.Native.Nat.{◌-◌}
use lib.ListN.{length}
use Rattle.table.specs.Calls.{FromUs}
use Rattle.test_calls.proofs.run.Given as goal

abbrev pub invariant-loop-from : goal.invariant-loop-from
invariant-loop-from g l = FromUs l.t

abbrev pub decreases-loop-from : goal.decreases-loop-from
decreases-loop-from g l = length l.scripts - l.from
