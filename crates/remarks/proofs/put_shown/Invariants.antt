-- `remarks::put_shown` meets its contract: so far the first i bytes are put. Assumes nothing.
use mathlib.Core.List.{map}
use Prim.Native.Nat.{◌+◌}
use lib.ListN.{take}
use Rattle.lists.specs.Putting.{Puts}
use Rattle.remarks.specs.Remark.{shown_byte}
use Rattle.remarks.proofs.put_shown.Given as goal

abbrev pub invariant-loop-i : goal.invariant-loop-i
invariant-loop-i l = Puts l.at (map shown_byte (take l.i l.bytes)) l.initial.out l.out (l.at + l.i)
