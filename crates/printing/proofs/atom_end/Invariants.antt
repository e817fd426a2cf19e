-- `printing::atom_end` meets its contract: `Seeking` holds from turn to turn, and with each turn the order or the tokens go on. Assumes
-- nothing.
use Prim.Native.Nat.{◌+◌, ◌-◌}
use Rattle.printing.specs.Places.{Seekable, Seeking}
use Rattle.printing.proofs.Seeking.{place_of}
use Rattle.printing.proofs.atom_end.Given as goal

abbrev pub invariant-loop-left : goal.invariant-loop-left
invariant-loop-left l = Seekable l.order l.kinds l.which × Seeking l.order l.kinds l.which l.left (place_of l.k l.j)

abbrev pub decreases-loop-left : goal.decreases-loop-left
decreases-loop-left l = 256 - l.k + (256 - l.j)
