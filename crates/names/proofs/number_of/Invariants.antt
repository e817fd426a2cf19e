-- `names::number_of` meets its contract: the name's place among those that are left, counted from i, is its place among all (the
-- invariant). Assumes nothing.
use Prim.Native.Nat.{◌+◌}
use mathlib.Core.Path.{◌≡◌}
use lib.ListN.{take, drop}
use Rattle.names.specs.Steps.{place_in}
use Rattle.names.proofs.number_of.Given as goal

abbrev pub invariant-loop-i : goal.invariant-loop-i
invariant-loop-i l = l.i + place_in l.w (drop l.i (take l.names.count l.names.list)) ≡ place_in l.w (take l.names.count l.names.list)
