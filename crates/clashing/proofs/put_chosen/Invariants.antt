-- `clashing::put_chosen` meets its contract: so far the chosen ones of the first i rules are put. Assumes nothing.
use Rattle.clashing.proofs.Gathering.{PutTo}
use Rattle.clashing.proofs.put_chosen.Given as goal

abbrev pub invariant-loop-i : goal.invariant-loop-i
invariant-loop-i l = PutTo l.code l.ends l.set l.initial.out l.out l.chosen l.count l.at l.from l.i
