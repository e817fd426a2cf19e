-- The words that are left fall with each call of `trees::tree_from`. Assumes nothing.
use Prim.Native.Nat.{◌-◌}
use lib.ListN.{length}
use Rattle.trees.proofs.+tree_from.Given as goal

abbrev pub decreases-tree_from : goal.decreases-tree_from
decreases-tree_from l = length l.words.now - l.at
