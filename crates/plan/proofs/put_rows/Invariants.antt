-- `plan::put_rows` meets its contract: so far the rows below i are written. Assumes nothing.
use Rattle.evalset.specs.Sets.{mem}
use Rattle.squares.specs.Square.{square_at}
use Rattle.plan.specs.Links.{links_to}
use Rattle.plan.specs.Private.{rows_by, Wrote}
use Rattle.plan.proofs.put_rows.Given as goal

abbrev pub invariant-loop-i : goal.invariant-loop-i
invariant-loop-i l = Wrote l.at (links_to l.i l.n (rows_by l.n l.points (mem l.given) (square_at l.apart))) l.initial.buffer l.buffer l.end
