-- `judging::leaves` meets its contract: the atoms passed have their values, a contact the one that `plan::touches` answers of its sets, a
-- zero atom the one that `plan::is_vacant` answers of its first. Assumes nothing.
use mathlib.Core.Path.{◌≡◌}
use lib.ListN.{length}
use Rattle.squares.specs.Square.{square_at}
use Rattle.judging.specs.Values.{value_of, Sure}
use Rattle.judging.proofs.leaves.Given as goal

abbrev pub invariant-loop-i : goal.invariant-loop-i
invariant-loop-i l = (length l.out ≡ 16) × Sure l.out l.i (value_of l.plan (square_at l.square) l.chart)
