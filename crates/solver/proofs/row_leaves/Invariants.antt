-- `solver::row_leaves` meets its contract: the entries before i are the row's, and the others as they were.
-- Assumes nothing.
use mathlib.Core.Path.{◌≡◌}
use Prim.Native.Nat.{ℕ, ◌-◌, ◌≤◌, ◌<◌}
use lib.ListN.{length, get_or}
use Rattle.solver.proofs.Whole.{OfRow}
use Rattle.solver.proofs.row_leaves.Given as goal

abbrev pub invariant-loop-i : goal.invariant-loop-i
invariant-loop-i l =
    (length l.leaves ≡ 16) × ((j : ℕ) → 0 ≤ j → j < l.i → OfRow l.row l.k j (get_or l.leaves j 0))
    × ((j : ℕ) → l.i ≤ j → get_or l.leaves j 0 ≡ get_or l.initial.leaves j 0)
