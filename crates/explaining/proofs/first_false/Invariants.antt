-- `explaining::first_false` meets its contract: no rule before was false. Assumes nothing.
use mathlib.Core.Bool.{false}
use mathlib.Core.Path.{◌≡◌}
use Prim.Native.Nat.{ℕ, ◌≤◌}
use Rattle.explaining.specs.Nodes.{false_at}
use Rattle.explaining.proofs.first_false.Given as goal

abbrev pub invariant-loop-i : goal.invariant-loop-i
invariant-loop-i l = (k : ℕ) → 1 ≤ k → k ≤ l.i → false_at l.words l.j k ≡ false
