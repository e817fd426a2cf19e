-- `test_calls::same_table` is safe: both tables came from us, each by the withdrawal before. Assumes nothing.
use Rattle.table.specs.Calls.{FromUs}
use Rattle.test_calls.proofs.same_table.Given as goal

abbrev pub invariant-loop-i : goal.invariant-loop-i
invariant-loop-i l = FromUs l.a × FromUs l.b
