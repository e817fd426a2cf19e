-- `solver::no_leaves` meets its contract: the entries before i are turned round, and the others are 0.
-- Assumes nothing.
use mathlib.Core.Path.{◌≡◌}
use Prim.Native.Nat.{ℕ, ◌-◌, ◌≤◌, ◌<◌}
use lib.ListN.{length, get_or}
use mathlib.Core.Bool.{not}
use mathlib.Core.List.{List}
use Rattle.evalset.specs.Bit.{bit}
use Rattle.kleene.specs.Rails.{word_rows}
use Rattle.solver.proofs.no_leaves.Given as goal

-- a word has the opposite of an atom's values
abbrev pub Opposite : List ℕ → ℕ → ℕ → Type 0
Opposite ts i w = (e : ℕ) → e < word_rows → bit w e ≡ not (bit (get_or ts i 0) e)

abbrev pub invariant-loop-i : goal.invariant-loop-i
invariant-loop-i l =
    (length l.out ≡ 16) × ((j : ℕ) → 0 ≤ j → j < l.i → Opposite l.yes j (get_or l.out j 0)) × ((j : ℕ) → l.i ≤ j → get_or l.out j 0 ≡ 0)
