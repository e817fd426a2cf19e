-- `solver::passed_to` meets its contract. Assumes nothing.
use native.Mathlib.Omega.{arith}
use Rattle.solver.proofs.Shutting.{shut_passed}
use Rattle.solver.proofs.passed_to.Goals as goal

pub returns-then-row-till : goal.returns-then-row-till
returns-then-row-till c = shut_passed _ _ _ (omega arith)
