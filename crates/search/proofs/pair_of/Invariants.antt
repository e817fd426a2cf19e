-- `search::pair_of` meets its contract: the first evaluation with a partner is the least such, and its partner is the least.
-- Assumes nothing.
use mathlib.Core.Path.{◌≡◌}
use Prim.Native.Nat.{ℕ}
use Rattle.evalset.specs.Sets.{mem, from_of}
use Rattle.squares.specs.Square.{square_at}
use Rattle.search.proofs.Finding.{left_over}
use Rattle.search.proofs.Walks.{Passed}
use Rattle.search.proofs.pair_of.Given as goal

abbrev pub invariant-loop-p : goal.invariant-loop-p
invariant-loop-p l =
    (from : ℕ) × (mem l.rest ≡ from_of from (mem l.initial.rest)) × Passed (mem l.initial.rest) (mem l.second) (square_at l.rows) from

abbrev pub decreases-loop-p : goal.decreases-loop-p
decreases-loop-p l = left_over (mem l.rest)
