-- `explaining::falses` meets its contract: so far the first i rules have been run. Assumes nothing.
use mathlib.Core.Path.{◌≡◌}
use lib.ListN.{length}
use Rattle.trees.specs.Branch.{start_of}
use Rattle.explaining.specs.Nodes.{FalsesSay}
use Rattle.explaining.proofs.falses.Given as goal

abbrev pub invariant-loop-i : goal.invariant-loop-i
invariant-loop-i l =
    (l.from ≡ start_of 0 l.ends l.i) × (length l.ys ≡ 128) × (length l.ns ≡ 128) × (length l.out ≡ 16) × FalsesSay l.code l.ends l.h l.k l.i l.out
