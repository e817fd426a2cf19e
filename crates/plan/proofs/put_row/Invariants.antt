-- `plan::put_row` meets its contract: so far the pairs below j are written. Assumes nothing.
use Prim.Native.Nat.{◌-◌, ◌≤◌, ◌<◌}
use mathlib.Core.Path.{◌≡◌}
use mathlib.Core.Bool.{true}
use Rattle.evalset.specs.Sets.{mem}
use Rattle.plan.specs.Links.{row_to}
use Rattle.plan.specs.Private.{Wrote}
use Rattle.plan.proofs.put_row.Given as goal

abbrev pub invariant-loop-j : goal.invariant-loop-j
invariant-loop-j l = (l.i < l.j) × (l.j ≤ l.n) × (l.j < l.n → mem l.row l.j ≡ true) × Wrote l.at (row_to l.j l.i (mem l.row)) l.initial.buffer l.buffer l.end

abbrev pub decreases-loop-j : goal.decreases-loop-j
decreases-loop-j l = l.n - l.j
