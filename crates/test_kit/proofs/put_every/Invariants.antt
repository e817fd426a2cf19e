-- `test_kit::put_every` meets its contract: so far the contacts of the first i positions are put. Assumes nothing.
use Rattle.lists.specs.Search.{collect, below}
use Rattle.test_kit.specs.Putting.{Puts}
use Rattle.test_kit.specs.Every.{contacts_of}
use Rattle.test_kit.proofs.put_every.Given as goal

abbrev pub invariant-loop-i : goal.invariant-loop-i
invariant-loop-i l = Puts (collect (contacts_of l.n) (below l.i)) l.initial.end l.initial.words l.words l.end
