-- `test_kit::put_rising` meets its contract: so far the first i words are put. Assumes nothing.
use Rattle.lists.specs.Search.{from}
use Rattle.test_kit.specs.Putting.{Puts}
use Rattle.test_kit.proofs.put_rising.Given as goal

abbrev pub invariant-loop-i : goal.invariant-loop-i
invariant-loop-i l = Puts (from l.first l.i) l.at l.initial.words l.words l.end
