-- `exercises::put_parted` meets its contract: so far the first i tokens are put. Assumes nothing.
use lib.ListN.{take}
use Rattle.exercises.specs.Lines.{parted}
use Rattle.lists.specs.Putting.{Puts}
use Rattle.exercises.proofs.put_parted.Given as goal

abbrev pub invariant-loop-i : goal.invariant-loop-i
invariant-loop-i l = Puts l.at (parted (take l.i l.ks)) l.initial.out l.out l.end
