-- `clashing::kept` meets its contract: before the place all rules are chosen, from it on those that are kept. Assumes nothing.
use mathlib.Core.Path.{◌≡◌}
use mathlib.Core.List.{List}
use Prim.Native.Nat.{ℕ, ◌≤◌}
use lib.ListN.{length}
use Rattle.formula.specs.Formula.{Formula, Name}
use Rattle.ruleset.specs.Texts.{CompiledRules}
use Rattle.clashing.proofs.Trying.{tried_to}
use Rattle.clashing.proofs.kept.Given as goal

abbrev pub invariant-loop-i : goal.invariant-loop-i
invariant-loop-i l =
    (l.i ≤ l.c.known.count) × (length l.room ≡ length l.initial.room) × ((rules : List (Formula Name)) (kept : List ℕ) → CompiledRules rules l.c kept l.code → l.set ≡ tried_to rules l.i)
