-- `search::possible` meets its contract. Assumes nothing.
use native.Mathlib.Omega.{arith}
use Rattle.search.proofs.Fitting.{possible_all, possible_less}
use Rattle.search.proofs.possible.Goals as goal

pub returns-then-names-eq0 : goal.returns-then-names-eq0
returns-then-names-eq0 c = possible_all _ _ (omega arith) c.below-all.ensures

pub returns-else-names-eq0 : goal.returns-else-names-eq0
returns-else-names-eq0 c = possible_less _ _ _ (omega arith) c.below-all.ensures c.without.ensures
