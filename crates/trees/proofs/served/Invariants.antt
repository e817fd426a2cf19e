-- `trees::served` meets its contract: so far the words before the index are joined. Assumes nothing.
use mathlib.Core.Path.{◌≡◌}
use Prim.Native.Nat.{ℕ}
use lib.ListN.{take}
use Rattle.evalset.specs.Bit.{bit}
use Rattle.trees.specs.Branch.{served_by}
use Rattle.trees.proofs.served.Given as goal

abbrev pub invariant-loop-w : goal.invariant-loop-w
invariant-loop-w l = (p : ℕ) → bit l.all p ≡ served_by l.left (take l.w-index l.list) p
