-- `plan::put_points` meets its contract: so far the first i points are written. Assumes nothing.
use mathlib.Core.Path.{◌≡◌}
use mathlib.Core.List.{map}
use lib.ListN.{take}
use Rattle.lists.specs.Putting.{written}
use Rattle.plan.specs.Words.{point_word}
use Rattle.plan.proofs.put_points.Given as goal

abbrev pub invariant-loop-i : goal.invariant-loop-i
invariant-loop-i l =
    l.buffer ≡ written 1 (map point_word (take l.i l.points)) l.initial.buffer
