-- `compile::names_of_kind` meets its contract: only the kind of a name brings one. Assumes nothing.
use mathlib.Core.Path.{sym}
use borrow.Author.Tests.{ne_eqb}
use Rattle.compile.specs.Kinds.{names_by}
use Rattle.compile.proofs.names_of_kind.Goals as goal

pub returns-then-kind-eq-NAME : goal.returns-then-kind-eq-NAME
unfolding names_by
returns-then-kind-eq-NAME c = rw c.if-kind-eq-NAME.true

pub returns-else-kind-eq-NAME : goal.returns-else-kind-eq-NAME
unfolding names_by
returns-else-kind-eq-NAME c = sym (simp (ne_eqb _ 18 c.if-kind-eq-NAME.false))
