-- `compile::second_set` meets its contract: of C it is the second set, of any other sign none. Assumes nothing.
use mathlib.Core.Path.{sym, ◌∙◌}
use borrow.Author.Tests.{ne_eqb}
use Rattle.compile.specs.Kinds.{second_by}
use Rattle.compile.proofs.second_set.Goals as goal

pub returns-then-kind-eq-CONTACT : goal.returns-then-kind-eq-CONTACT
unfolding second_by
returns-then-kind-eq-CONTACT c = rw c.if-kind-eq-CONTACT.true

pub returns-else-kind-eq-CONTACT : goal.returns-else-kind-eq-CONTACT
unfolding second_by
returns-else-kind-eq-CONTACT c = c.empty.ensures ∙ sym (simp (ne_eqb c.args.kind 14 c.if-kind-eq-CONTACT.false))
