-- `clashing::clash` meets its contract: the first row of all rules says whether a plan exists, and where none does, what is kept is put over the
-- first places, if there are enough. Assumes nothing.
use mathlib.Core.Path.{sym, ◌∙◌}
use native.Mathlib.Omega.{arith}
use Rattle.clashing.proofs.Trying.{clash_plan, clash_few, clash_placed}
use Rattle.clashing.proofs.clash.Goals as goal

pub returns-then-is_some : goal.returns-then-is_some
returns-then-is_some c = clash_plan _ _ _ _ c.row_of-found.ensures (sym c.is_some.ensures ∙ c.if-is_some.true)

pub returns-then-places-count : goal.returns-then-places-count
returns-then-places-count c = clash_few _ _ _ _ c.row_of-found.ensures (sym c.is_some.ensures ∙ c.if-is_some.false) (omega arith)

pub returns : goal.returns
returns c =
    clash_placed _ _ _ _ c.row_of-found.ensures (sym c.is_some.ensures ∙ c.if-is_some.false) (omega arith) _ _ c.kept-set.ensures c.put_set.ensures
