-- `search::separate` meets its contract: each evaluation of the first set is met once, least first, and its row takes in the second
-- set. Assumes nothing.
use mathlib.Core.Path.{◌≡◌}
use Prim.Native.Nat.{ℕ}
use lib.ListN.{length}
use Rattle.evalset.specs.Sets.{mem, from_of}
use Rattle.squares.specs.Square.{square_at, reach}
use Rattle.search.proofs.Finding.{left_over}
use Rattle.search.proofs.Walks.{SeparatedTo}
use Rattle.search.proofs.separate.Given as goal

abbrev pub invariant-loop-p : goal.invariant-loop-p
invariant-loop-p l =
    (length l.rows ≡ length l.initial.rows)
    × (from : ℕ) × (mem l.rest ≡ from_of from (mem l.initial.rest))
    × SeparatedTo from (reach l.initial.rows) (square_at l.initial.rows) (square_at l.rows) (mem l.initial.rest) (mem l.second)

abbrev pub decreases-loop-p : goal.decreases-loop-p
decreases-loop-p l = left_over (mem l.rest)
