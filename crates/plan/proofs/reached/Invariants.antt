-- `plan::reached` meets its contract: no row so far reaches ys. Assumes nothing.
use mathlib.Core.Path.{◌≡◌}
use mathlib.Core.Bool.{false}
use Rattle.evalset.specs.Sets.{mem}
use Rattle.squares.specs.Square.{square_at}
use Rattle.plan.specs.Private.{reached_of}
use Rattle.plan.proofs.reached.Given as goal

abbrev pub invariant-loop-a : goal.invariant-loop-a
invariant-loop-a l = reached_of l.a l.points (square_at l.square) (mem l.x) (mem l.ys) ≡ false
