-- `solver::in_words` meets its contract: so far the words below some place are passed. Assumes nothing.
use Rattle.pairing.proofs.Walking.{places_left}
use Rattle.solver.specs.Tree.{Lent}
use Rattle.solver.proofs.Steps.{Walked}
use mathlib.Core.List.{List}
use Prim.Native.Nat.{ℕ}
use Rattle.search.specs.declared.Chart.{Chart}
use Rattle.solver.specs.declared.Cut.{Cut}
use Rattle.solver.specs.Tree.{Given, RowsTested, Left}
use Rattle.solver.proofs.in_words.Given as goal

-- what is known of the block
abbrev pub Known : {code ends : List ℕ} {chart : Chart} {cut : Cut} → List ℕ → ℕ → ℕ → Given code ends chart cut → Type 0
Known {cut = cut} table row words g = RowsTested g table row × Left g cut.k row cut.w words

abbrev pub invariant-loop-e : goal.invariant-loop-e
invariant-loop-e l =
    (at : ℕ) × Walked {code = l.code} {ends = l.ends} {chart = l.chart} {cut = l.cut} (Known l.table l.row l.words) l.cut.k l.row l.cut.w l.cut.r l.words l.rest at
    × Lent l.cut l.leaves l.stack

abbrev pub decreases-loop-e : goal.decreases-loop-e
decreases-loop-e l = places_left l.rest
