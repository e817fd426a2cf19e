-- `pairing::keep_different` meets its contract: so far the different ones of the first e masks are kept, and the masks from e on are as
-- they were. Assumes nothing.
use mathlib.Core.Path.{◌≡◌}
use Prim.Native.Nat.{ℕ, ◌-◌, ◌≤◌}
use Rattle.pairing.specs.Sums.{entry}
use Rattle.pairing.specs.Masks.{lowest_of, Kept}
use Rattle.pairing.proofs.keep_different.Given as goal

abbrev pub invariant-loop-e : goal.invariant-loop-e
invariant-loop-e l =
    (lowest_of l.names ≤ l.e) × Kept (lowest_of l.names) l.e l.initial.masks l.masks l.count × ((d : ℕ) → l.e ≤ d → entry l.masks d ≡ entry l.initial.masks d)
