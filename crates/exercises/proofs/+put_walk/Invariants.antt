-- `exercises::put_walk` meets its contract: the lines of each branch are put behind those of the branches before it. Assumes nothing.
use Rattle.lists.specs.Putting.{Puts}
use Rattle.exercises.proofs.Branches.{branches}
use Rattle.exercises.proofs.+put_walk.Given as goal

abbrev pub decreases-put_walk : goal.decreases-put_walk
decreases-put_walk l = l.left

abbrev pub invariant-loop-k : goal.invariant-loop-k
invariant-loop-k l = Puts l.at (branches l.left l.ks l.nexts l.k-index) l.initial.out l.out l.end
