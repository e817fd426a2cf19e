-- `clashes::line_numbers` meets its contract: line by line, the numbers so far (Numbers.antt). Assumes nothing.
use Prim.Native.Nat.{◌+◌, ◌-◌}
use lib.ListN.{length}
use Rattle.clashes.proofs.Numbers.{NumbersTo}
use Rattle.clashes.proofs.line_numbers.Given as goal

abbrev pub invariant-loop-from : goal.invariant-loop-from
invariant-loop-from l = NumbersTo l.file l.numbers l.count l.line l.from

abbrev pub decreases-loop-from : goal.decreases-loop-from
decreases-loop-from l = length l.file + 1 - l.from
