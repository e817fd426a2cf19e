-- `ruleset::names_in` meets its contract: the names before a place and those from it on are all. Assumes nothing.
use mathlib.Core.Path.{◌≡◌}
use Prim.Native.Nat.{◌+◌, ◌≤◌}
use lib.ListN.{drop}
use Rattle.ruleset.specs.Counted.{name_count}
use Rattle.ruleset.proofs.names_in.Given as goal

abbrev pub invariant-loop-kind : goal.invariant-loop-kind
invariant-loop-kind l = (l.n + name_count (drop l.kind-index l.order) ≡ name_count l.order) × (l.n ≤ l.kind-index)
