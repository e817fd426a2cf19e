-- `solver::some_refuted` meets its contract: what is joined so far is what the parts passed refute.
-- Assumes nothing.
use mathlib.Core.Path.{◌≡◌}
use mathlib.Core.List.{List}
use Prim.Native.Nat.{ℕ, ◌-◌}
use lib.ListN.{length, drop}
use Rattle.formula.specs.Formula.{Form}
use Rattle.evalset.specs.Bit.{bit}
use Rattle.solver.specs.Coded.{SafeFrom, Coded}
use Rattle.solver.proofs.Codes.{Joined}
use Prim.Native.Nat.{◌<◌}
use Rattle.contact.specs.Row.{PartialRow}
use Rattle.kleene.specs.Rails.{word_rows}
use Rattle.solver.specs.Coded.{Values}
use Rattle.solver.proofs.some_refuted.Given as goal

-- what is known of row e
abbrev pub Known : List ℕ → List ℕ → ℕ → PartialRow → Type 0
Known ts fs e row = (e < word_rows) × Values ts fs e row

abbrev pub invariant-loop-end : goal.invariant-loop-end
invariant-loop-end l =
    SafeFrom l.code l.from (drop l.end-index l.ends) × (length l.ys ≡ 128) × (length l.ns ≡ 128)
    × ((many : ℕ) (rules : List (Form ℕ)) → Coded many l.code l.ends rules → Joined (Known l.yes l.no) many l.code l.from (drop l.end-index l.ends) (bit l.acc) rules)
