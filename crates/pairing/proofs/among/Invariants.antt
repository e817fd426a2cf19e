-- `pairing::among` meets its contract: so far the first i masks are compared. Assumes nothing.
use mathlib.Core.Path.{◌≡◌}
use Prim.Native.Nat.{◌-◌, ◌≤◌}
use lib.ListN.{take}
use Rattle.lists.specs.Search.{elem}
use Rattle.pairing.proofs.among.Given as goal

abbrev pub invariant-loop-i : goal.invariant-loop-i
invariant-loop-i l = (l.there ≡ elem l.m (take l.i l.masks))
