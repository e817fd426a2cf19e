-- `solver::word_leaves` meets its contract: the entries from k to i are the block's.
-- Assumes nothing.
use mathlib.Core.Path.{◌≡◌}
use Prim.Native.Nat.{ℕ, ◌+◌, ◌-◌, ◌≤◌, ◌<◌}
use lib.ListN.{length, get_or}
use Rattle.solver.proofs.Whole.{OfWord}
use Rattle.solver.proofs.word_leaves.Given as goal

abbrev pub invariant-loop-i : goal.invariant-loop-i
invariant-loop-i l =
    (l.n ≡ l.k + l.d) × (length l.out ≡ 16) × ((j : ℕ) → l.k ≤ j → j < l.i → OfWord l.k l.d j (get_or l.out j 0))
