-- `table::drawn` meets its contract: the words are read first; then the number of names decides, and the judgement by the rules of the plan
-- with their number of names. Assumes nothing.
use native.Mathlib.Omega.{arith}
use Rattle.table.proofs.Still.{drawn_unread, drawn_more, drawn_judged}
use Rattle.table.proofs.drawn.Goals as goal

pub returns-in_default : goal.returns-in_default
returns-in_default c = drawn_unread _ _ c.in_default.ensures _ _

pub returns-then-names-lent : goal.returns-then-names-lent
returns-then-names-lent c = drawn_more _ _ c.in-Ok.ensures _ _ (omega arith)

pub returns : goal.returns
returns c = drawn_judged _ _ c.in-Ok.ensures _ _ (omega arith) _ c.judged-judged.ensures _ c.is_met.ensures
