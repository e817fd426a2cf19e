-- `remarks::line_start` meets its contract: of what is left, the line that is looked for is the one behind those that are still to be passed.
-- Assumes nothing.
use mathlib.Core.List.{[]}
use mathlib.Core.Path.{◌≡◌}
use Prim.Native.Nat.{◌-◌}
use lib.ListN.{get_or, drop}
use Rattle.table.specs.Sheet.{lines_of}
use Rattle.remarks.proofs.line_start.Given as goal

abbrev pub invariant-loop-i : goal.invariant-loop-i
invariant-loop-i l = get_or (lines_of (drop l.i l.sheet)) (l.left - 1) [] ≡ get_or (lines_of l.sheet) (l.number - 1) []
