-- `ruleset::sign_place` meets its contract: the place in the parts that are left is the place in all. Assumes nothing.
use mathlib.Core.Path.{◌≡◌}
use lib.ListN.{drop}
use Rattle.solver.specs.Coded.{SafeFrom}
use Rattle.ruleset.specs.Places.{place_from}
use Rattle.ruleset.proofs.sign_place.Given as goal

abbrev pub invariant-loop-rule : goal.invariant-loop-rule
invariant-loop-rule l = SafeFrom l.code l.from (drop l.rule l.ends) × (place_from l.sign l.code l.from l.rule (drop l.rule l.ends) ≡ place_from l.sign l.code 0 0 l.ends)
