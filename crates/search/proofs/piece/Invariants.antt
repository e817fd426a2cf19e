-- `search::piece` meets its contract: the set grows until each of it was looked at, and each turn looks at one more. Assumes nothing.
use mathlib.Core.Bool.{true}
use mathlib.Core.Path.{◌≡◌}
use mathlib.Core.List.{List}
use Prim.Native.Nat.{ℕ, ◌≤◌, ◌<◌}
use Rattle.evalset.specs.Sets.{room, mem}
use Rattle.evalset.specs.Most.{most}
use Rattle.contact.specs.Plan.{Mark, allowed as allowedBy}
use Rattle.search.specs.Compiled.{state, Fit}
use Rattle.search.proofs.Growing.{Growing, unseen}
use Rattle.search.proofs.piece.Given as goal

abbrev pub invariant-loop-p : goal.invariant-loop-p
invariant-loop-p l =
    (l.e < room → mem l.piece l.e ≡ true)
    × ((names : ℕ) → names ≤ most → (ms : List Mark) → Fit names (state l.allowed l.rows) ms → allowedBy names ms l.e ≡ true
    → Growing names ms l.e (mem l.piece) (mem l.looked))

abbrev pub decreases-loop-p : goal.decreases-loop-p
decreases-loop-p l = unseen (mem l.looked)
