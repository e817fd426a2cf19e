-- `test_kit::put_times` meets its contract: so far the bytes are put i times. Assumes nothing.
use Rattle.test_kit.specs.Putting.{Puts, times}
use Rattle.test_kit.proofs.put_times.Given as goal

abbrev pub invariant-loop-i : goal.invariant-loop-i
invariant-loop-i l = Puts (times l._i l.bytes) l.at l.initial.text l.text l.end
