-- `plan::row_size` meets its contract: so far the positions below j are counted. Assumes nothing.
use Prim.Native.Nat.{◌-◌, ◌≤◌, ◌<◌}
use mathlib.Core.Path.{◌≡◌}
use mathlib.Core.Bool.{true}
use lib.ListN.{length}
use Rattle.evalset.specs.Sets.{mem}
use Rattle.plan.specs.Links.{row_to}
use Rattle.plan.proofs.row_size.Given as goal

abbrev pub invariant-loop-j : goal.invariant-loop-j
invariant-loop-j l = (l.i < l.j) × (l.j ≤ l.n) × (l.j < l.n → mem l.row l.j ≡ true) × (l.size ≡ length (row_to l.j l.i (mem l.row)))

abbrev pub decreases-loop-j : goal.decreases-loop-j
decreases-loop-j l = l.n - l.j
