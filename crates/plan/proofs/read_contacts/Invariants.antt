-- `plan::read_contacts` meets its contract: what is left, read from the contacts so far, gives what all words give. Assumes nothing.
use mathlib.Core.Path.{◌≡◌}
use mathlib.Core.List.{List}
use Prim.Native.Nat.{ℕ}
use lib.ListN.{length}
use Rattle.plan.specs.Private.{LinksCome, LinksHeld}
use Rattle.plan.proofs.read_contacts.Given as goal

abbrev pub invariant-loop-at : goal.invariant-loop-at
invariant-loop-at l =
    (length l.square ≡ length l.initial.square)
    × ((n : ℕ) (pts : List ℕ) → LinksCome l.words l.count l.initial.square n pts → LinksHeld l.words n pts l.at l.low l.square)
