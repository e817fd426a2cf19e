-- `squares::join_row` meets its contract: each word of the row takes in the set's.
-- Assumes nothing.
use Rattle.evalset.specs.Sets.{mem}
use Rattle.squares.proofs.Rows.{JoinedTo}
use Rattle.squares.proofs.join_row.Given as goal

abbrev pub invariant-loop-k : goal.invariant-loop-k
invariant-loop-k l = JoinedTo l.n l.p (mem l.s) l.k l.initial.ws l.ws
