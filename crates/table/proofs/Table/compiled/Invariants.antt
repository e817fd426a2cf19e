-- `table::Table::compiled` meets its contract: so far the first i texts are compiled. Assumes nothing.
use Prim.Native.Nat.{◌-◌, ◌≤◌}
use mathlib.Core.Path.{◌≡◌}
use lib.ListN.{length}
use Rattle.table.proofs.Compiled.{Reached}
use Rattle.table.proofs.Table.compiled.Given as goal

abbrev pub invariant-loop-i : goal.invariant-loop-i
invariant-loop-i l = (length l.code ≡ length l.initial.code) × Reached l.self l.c l.kept l.code l.i
