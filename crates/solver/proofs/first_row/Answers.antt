-- `solver::first_row` meets its contract: no word was seen, of at most ten atoms there are 1,024 words, and the rows under the row of no
-- atoms are all rows. Assumes nothing.
use mathlib.Core.Path.{ap, ◌∙◌}
use mathlib.Core.List.{List, map-id}
use Prim.Native.Nat.{ℕ}
use native.Mathlib.Omega.{arith}
use lib.ListN.{length}
use lib.Pow.{pow_mono}
use Rattle.std.specs.Prelude.{Option}
use Rattle.lists.specs.Search.{first}
use Rattle.contact.specs.Question.{Question}
use Rattle.contact.specs.Row.{Row}
use Rattle.contact.specs.Check.{rows, good, first_row}
use Rattle.search.specs.declared.Chart.{Chart}
use Rattle.solver.specs.Tree.{answer_for, SearchSays, FirstRowSays}
use Rattle.solver.proofs.Root.{unseen}
use Rattle.solver.proofs.first_row.Goals as goal

-- what the search finds is the answer
all_rows : (q : Question) (code ends : List ℕ) (chart : Chart) (r : Option ℕ) → SearchSays q code ends chart r → FirstRowSays q code ends chart r
unfolding SearchSays FirstRowSays first_row
all_rows q code ends chart r says = λ atoms rules h.
    says atoms rules h ∙ ap (λ (rs : List Row). answer_for (first (good q chart.names atoms rules) rs)) (map-id (rows (length atoms)))

pub listed-requires : goal.listed-requires
listed-requires c =
    (c.requires, unseen _ 16 (omega (arith, pow_mono {i = c.args.chart.atoms} {j = 10} (omega arith))))

pub returns-then-chart-le10 : goal.returns-then-chart-le10
returns-then-chart-le10 c = all_rows _ _ _ _ _ c.listed.ensures

pub listed-requires-2 : goal.listed-requires-2
listed-requires-2 c =
    (c.requires, unseen _ 1024 (omega (arith, pow_mono {i = c.args.chart.atoms} {j = 16} c.requires.atoms_fit)))

pub returns : goal.returns
returns c = all_rows _ _ _ _ _ c.listed-2.ensures
