-- `explaining::explain` meets its contract: where a row is found there is no tree, and where none is there is one. Assumes nothing.
use mathlib.Core.Path.{sym, ◌∙◌}
use Rattle.explaining.proofs.Puts.{explains_plan, explains_tree}
use Rattle.explaining.proofs.explain.Goals as goal

pub returns-then-is_some : goal.returns-then-is_some
returns-then-is_some c = explains_plan _ _ _ _ c.first_row.ensures (sym c.is_some.ensures ∙ c.if-is_some.true) _

pub returns : goal.returns
returns c = explains_tree _ _ _ _ c.first_row.ensures (sym c.is_some.ensures ∙ c.if-is_some.false) _ _ _ c.tell.ensures
