-- `solver::in_blocks` meets its contract: so far the blocks below some place are passed. Assumes nothing.
use Prim.Native.Nat.{◌+◌}
use Rattle.pairing.proofs.Walking.{places_left}
use Rattle.solver.specs.Tree.{Lent}
use Rattle.solver.proofs.Steps.{Walked}
use mathlib.Core.List.{List}
use Prim.Native.Nat.{ℕ}
use Rattle.pairing.specs.Words.{Serving}
use Rattle.search.specs.declared.Chart.{Chart}
use Rattle.solver.specs.declared.Cut.{Cut}
use Rattle.solver.specs.Tree.{Given}
use Rattle.solver.proofs.in_blocks.Given as goal

-- what is known of the list
abbrev pub Known : {code ends : List ℕ} {chart : Chart} {cut : Cut} → List ℕ → Given code ends chart cut → Type 0
Known {chart = chart} list g = Serving chart.names g.atoms list

abbrev pub invariant-loop-e : goal.invariant-loop-e
invariant-loop-e l =
    (at : ℕ) × Walked {code = l.code} {ends = l.ends} {chart = l.chart} {cut = l.cut} (Known l.list) 0 0 l.cut.k (l.cut.w + l.cut.r) l.initial.rest l.rest at
    × Lent l.cut l.leaves l.stack

abbrev pub decreases-loop-e : goal.decreases-loop-e
decreases-loop-e l = places_left l.rest
