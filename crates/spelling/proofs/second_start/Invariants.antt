-- `spelling::second_start` meets its contract: of a row of two terms as many as are wanted are left behind the first (Second.antt).
-- Assumes nothing.
use Prim.Native.Nat.{◌+◌, ◌≤◌}
use Rattle.spelling.proofs.Second.{Left}
use Rattle.spelling.proofs.second_start.Given as goal

abbrev pub invariant-loop-i : goal.invariant-loop-i
invariant-loop-i l = (l.wanted + l.i ≤ l.len + 1) × Left l.row l.len l.wanted l.i
