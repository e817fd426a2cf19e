-- `compile::first_set` meets its contract: of <= it is the difference, of any other sign the first set. Assumes nothing.
use mathlib.Core.Path.{sym}
use borrow.Author.Tests.{ne_eqb}
use Rattle.compile.specs.Kinds.{first_by}
use Rattle.compile.proofs.first_set.Goals as goal

pub returns-then-kind-eq-PART : goal.returns-then-kind-eq-PART
unfolding first_by
returns-then-kind-eq-PART c = rw c.if-kind-eq-PART.true c.minus.ensures

pub returns-else-kind-eq-PART : goal.returns-else-kind-eq-PART
unfolding first_by
returns-else-kind-eq-PART c = sym (simp (ne_eqb _ 15 c.if-kind-eq-PART.false))
