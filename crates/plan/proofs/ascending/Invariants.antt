-- `plan::ascending` meets its contract: the walk meets the members in rising order, and each is put after those before it.
-- Assumes nothing.
use mathlib.Core.Path.{◌≡◌}
use Prim.Native.Nat.{◌-◌, ◌≤◌}
use lib.ListN.{length}
use Rattle.lists.specs.Padded.{pad}
use Rattle.lists.specs.Search.{keep, below}
use Rattle.evalset.specs.Sets.{room, mem, from_of}
use Rattle.plan.proofs.ascending.Given as goal

abbrev pub invariant-loop-from : goal.invariant-loop-from
invariant-loop-from l =
    (l.from ≤ room) × (mem l.rest ≡ from_of l.from (mem l.initial.rest)) × (l.count ≡ length (keep (mem l.initial.rest) (below l.from)))
    × (l.points ≡ pad room (keep (mem l.initial.rest) (below l.from)))

abbrev pub decreases-loop-from : goal.decreases-loop-from
decreases-loop-from l = room - l.from
