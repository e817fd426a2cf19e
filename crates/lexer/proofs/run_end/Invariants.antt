-- `lexer::run_end` meets its contract: what is left of the run at the start is what has been passed and what is left from here on.
-- Assumes nothing.
use mathlib.Core.Path.{◌≡◌}
use Prim.Native.Nat.{◌+◌}
use lib.ListN.{drop}
use Rattle.lexer.specs.Cutter.{run_length}
use Rattle.lexer.proofs.run_end.Given as goal

abbrev pub invariant-loop-e : goal.invariant-loop-e
invariant-loop-e l = l.e + run_length (drop l.e l.text) ≡ l.at + run_length (drop l.at l.text)
