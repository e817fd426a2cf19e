-- `plan::contact_count` meets its contract: the contacts are the rows' one after the other. Assumes nothing.
use mathlib.Core.Path.{◌≡◌}
use lib.ListN.{length}
use Rattle.evalset.specs.Sets.{mem}
use Rattle.squares.specs.Square.{square_at}
use Rattle.plan.specs.Links.{links_to}
use Rattle.plan.specs.Private.{rows_by}
use Rattle.plan.proofs.contact_count.Given as goal

abbrev pub invariant-loop-i : goal.invariant-loop-i
invariant-loop-i l = l.size ≡ length (links_to l.i l.n (rows_by l.n l.points (mem l.given) (square_at l.apart)))
