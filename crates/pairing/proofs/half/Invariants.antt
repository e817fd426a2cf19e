-- `pairing::half` meets its contract: so far the words up to j + h have taken in others. Assumes nothing.
use mathlib.Core.Path.{◌≡◌}
use Prim.Native.Nat.{◌+◌, ◌-◌, ◌≤◌}
use lib.ListN.{length}
use Rattle.pairing.specs.Sums.{Joined}
use Rattle.pairing.proofs.half.Given as goal

abbrev pub invariant-loop-j : goal.invariant-loop-j
invariant-loop-j l = (length l.initial.table ≡ 1024) × Joined (l.from + l.h) (l.j + l.h) l.h l.initial.table l.table
