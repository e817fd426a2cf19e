-- `test_clashes::answer_alike` meets its contract: each table that withdraw gives back is from us. Assumes nothing.
use Rattle.table.specs.Calls.{FromUs}
use Rattle.test_clashes.proofs.answer_alike.Given as goal

abbrev pub invariant-loop-i : goal.invariant-loop-i
invariant-loop-i l = FromUs l.one × FromUs l.two
