-- `prefixes::mark_rows` meets its contract: row by row, each bit is the row's test. Assumes nothing.
use Rattle.pairing.specs.Words.{row_test}
use Rattle.prefixes.specs.Filled.{Tested}
use Rattle.prefixes.proofs.mark_rows.Given as goal

abbrev pub invariant-loop-row : goal.invariant-loop-row
invariant-loop-row l = Tested (row_test l.table l.some l.contacts l.low) l.top l.start l.row l.initial.bits l.bits
