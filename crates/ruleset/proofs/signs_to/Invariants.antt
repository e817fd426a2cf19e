-- `ruleset::signs_to` meets its contract: the signs of atoms that were counted and those to come are all. Assumes nothing.
use mathlib.Core.Path.{◌≡◌}
use Prim.Native.Nat.{◌+◌, ◌≤◌}
use lib.ListN.{drop}
use Rattle.ruleset.specs.Places.{signs_to}
use Rattle.ruleset.proofs.signs_to.Given as goal

abbrev pub invariant-loop-next : goal.invariant-loop-next
invariant-loop-next l = (l.n + signs_to (drop l.next-index l.part) l.sign ≡ signs_to l.part l.sign) × (l.n ≤ l.next-index)
