-- `test_kit::put_bytes` meets its contract: so far the first bytes are put. Assumes nothing.
use lib.ListN.{take}
use Rattle.test_kit.specs.Putting.{Puts}
use Rattle.test_kit.proofs.put_bytes.Given as goal

abbrev pub invariant-loop-b : goal.invariant-loop-b
invariant-loop-b l = Puts (take l.b-index l.bytes) l.at l.initial.text l.text l.end
