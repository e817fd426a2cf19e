-- `plan::last` meets its contract, test by test. Assumes nothing.
use borrow.Author.Tests.{eq-eqb, ne_eqb}
use Rattle.plan.proofs.last.Goals as goal

pub returns-then-before-at : goal.returns-then-before-at
returns-then-before-at c = simp (ne_eqb _ _ c.if-before-at.true)

pub returns-then-at-len : goal.returns-then-at-len
returns-then-at-len c = simp (eq-eqb _ _ c.if-before-at.false, ne_eqb _ _ c.if-at-len.true)

pub returns : goal.returns
returns c = simp (eq-eqb _ _ c.if-before-at.false, eq-eqb _ _ c.if-at-len.false)
