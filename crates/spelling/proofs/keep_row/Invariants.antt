-- `spelling::keep_row` meets its contract: so far the first i bytes are stored (Storing.antt). Assumes nothing.
use Rattle.spelling.proofs.Storing.{StoredTo}
use Rattle.spelling.proofs.keep_row.Given as goal

abbrev pub invariant-loop-i : goal.invariant-loop-i
invariant-loop-i l = StoredTo l.row l.len l.initial.kept l.number l.i l.kept
