-- `solver::all_true` meets its contract: a row that is left is one that no part passed refutes.
-- Assumes nothing.
use mathlib.Core.Path.{◌≡◌}
use Prim.Native.Nat.{◌-◌}
use lib.ListN.{length, drop}
use Rattle.solver.specs.Coded.{SafeFrom}
use Rattle.solver.proofs.Whole.{SoFar}
use Rattle.solver.proofs.all_true.Given as goal

abbrev pub invariant-loop-end : goal.invariant-loop-end
invariant-loop-end l =
    SafeFrom l.code l.from (drop l.end-index l.ends) × (length l.stack ≡ 128) × SoFar l.code l.ends l.leaves l.from l.left (drop l.end-index l.ends)
