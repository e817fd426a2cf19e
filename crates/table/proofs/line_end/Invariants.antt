-- `table::line_end` meets its contract: the lines from the start on are those of what is left, with what was passed in front of the first. Assumes nothing.
use Prim.Native.Nat.{◌-◌, ◌≤◌}
use mathlib.Core.Path.{◌≡◌}
use lib.ListN.{length, take, drop}
use Rattle.table.specs.Sheet.{lines_of}
use Rattle.table.proofs.Scan.{on_head}
use Rattle.table.proofs.line_end.Given as goal

abbrev pub invariant-loop-i : goal.invariant-loop-i
invariant-loop-i l = (l.from ≤ l.i) × (l.i ≤ length l.file) × (on_head (take (l.i - l.from) (drop l.from l.file)) (lines_of (drop l.i l.file)) ≡ lines_of (drop l.from l.file))
