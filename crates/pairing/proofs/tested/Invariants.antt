-- `pairing::tested` meets its contract: so far the rows below some place are tested, and those from it on are left. Assumes nothing.
use mathlib.Core.Path.{◌≡◌}
use Prim.Native.Nat.{ℕ, ◌+◌}
use Rattle.evalset.specs.Bit.{bit}
use Rattle.evalset.specs.Sets.{from_of}
use Rattle.pairing.specs.Words.{row_test}
use Rattle.pairing.proofs.Testing.{TestedTo}
use Rattle.pairing.proofs.Walking.{places_left}
use Rattle.pairing.proofs.tested.Given as goal

abbrev pub invariant-loop-e : goal.invariant-loop-e
invariant-loop-e l =
    (at : ℕ) × (bit l.rest ≡ from_of at (bit l.set)) × TestedTo (λ e. row_test l.table l.lone l.contacts l.low (l.start + e)) (bit l.set) at (bit l.out)

abbrev pub decreases-loop-e : goal.decreases-loop-e
decreases-loop-e l = places_left l.rest
