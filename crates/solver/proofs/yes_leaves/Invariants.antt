-- `solver::yes_leaves` meets its contract: the entries before i have their values, and the others are 0.
-- Assumes nothing.
use mathlib.Core.Path.{◌≡◌}
use Prim.Native.Nat.{ℕ, ◌+◌, ◌-◌, ◌≤◌, ◌<◌}
use lib.ListN.{length, get_or}
use Prim.Native.Nat.{◌^◌}
use Rattle.evalset.specs.Bit.{bit}
use Rattle.kleene.specs.Rails.{sure}
use Rattle.solver.specs.Tree.{decided_at}
use Rattle.solver.proofs.yes_leaves.Given as goal

-- a word has the values of an atom
abbrev pub Says : ℕ → ℕ → ℕ → ℕ → ℕ → Type 0
Says row k d i w = (e : ℕ) → e < 2 ^ d → sure (bit w e) ≡ decided_at k row d e i

abbrev pub invariant-loop-i : goal.invariant-loop-i
invariant-loop-i l =
    (length l.out ≡ 16) × ((j : ℕ) → 0 ≤ j → j < l.i → Says l.row l.k l.d j (get_or l.out j 0)) × ((j : ℕ) → l.i ≤ j → get_or l.out j 0 ≡ 0)
