-- `remarks::line_length` meets its contract: the first line is what was passed, and the first line of what is left. Assumes nothing.
use mathlib.Core.Path.{◌≡◌}
use mathlib.Core.List.{[], ◌++◌}
use lib.ListN.{get_or, take, drop}
use Rattle.table.specs.Sheet.{lines_of}
use Rattle.remarks.proofs.line_length.Given as goal

abbrev pub invariant-loop-i : goal.invariant-loop-i
invariant-loop-i l = take l.i l.rest ++ get_or (lines_of (drop l.i l.rest)) 0 [] ≡ get_or (lines_of l.rest) 0 []
