-- `explaining::leaves` meets its contract: so far the first i atoms have their leaves. Assumes nothing.
use Rattle.kleene.specs.Rails.{yes_of, no_of}
use Rattle.explaining.specs.Nodes.{LeavesSay}
use Rattle.explaining.proofs.leaves.Given as goal

abbrev pub invariant-loop-i : goal.invariant-loop-i
invariant-loop-i l = LeavesSay yes_of l.h l.k l.i l.out.yes × LeavesSay no_of l.h l.k l.i l.out.no
