-- `pairing::put_all` meets its contract: so far the words before i are put. Assumes nothing.
use mathlib.Core.Path.{◌≡◌}
use Prim.Native.Nat.{◌-◌, ◌≤◌}
use lib.ListN.{length, take}
use Rattle.pairing.specs.Listed.{Takes, puts_all}
use Rattle.pairing.proofs.put_all.Given as goal

abbrev pub invariant-loop-word : goal.invariant-loop-word
invariant-loop-word l =
    (length l.initial.table ≡ 1024) × Takes (puts_all l.s l.left l.low (take l.word-index l.list)) l.initial.table l.table
