-- `pairing::masks_of` meets its contract: so far the masks are those by the first i atoms. Assumes nothing.
use mathlib.Core.Path.{◌≡◌}
use Prim.Native.Nat.{◌-◌, ◌≤◌}
use lib.ListN.{length}
use Rattle.pairing.specs.Masks.{MasksAre}
use Rattle.pairing.proofs.masks_of.Given as goal

abbrev pub invariant-loop-i : goal.invariant-loop-i
invariant-loop-i l = (length l.masks ≡ 256) × MasksAre l.xs l.ys l.i l.top l.masks
