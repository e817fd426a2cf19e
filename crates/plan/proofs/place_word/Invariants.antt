-- `plan::place_word` meets its contract: so far the word holds the positions from its start up to j. Assumes nothing.
use Prim.Native.Nat.{◌+◌, ◌-◌, ◌≤◌}
use lib.ListN.{get_or}
use Rattle.evalset.specs.Sets.{mem}
use Rattle.plan.proofs.WordOf.{Held}
use Rattle.plan.proofs.place_word.Given as goal

abbrev pub invariant-loop-j : goal.invariant-loop-j
invariant-loop-j l = (l.j ≤ l.start + (l.n - l.start)) × Held l.start l.j (λ i. mem l.x (get_or l.points i 0)) l.word
