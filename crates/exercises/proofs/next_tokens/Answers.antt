-- `exercises::next_tokens` meets its contract: one of four tables. Assumes nothing.
use mathlib.Core.Path.{sym, ap₂, ◌∙◌}
use borrow.Author.Tests.{eq-eqb, ne_eqb}
use Rattle.exercises.specs.Next.{nexts}
use Rattle.exercises.proofs.Next.{values, last_values, signs, last_signs}
use Rattle.exercises.proofs.next_tokens.Goals as goal

pub returns-then-left-eq1 : goal.returns-then-left-eq1
returns-then-left-eq1 c = last_values ∙ ap₂ nexts (sym c.if-awaited.true) (sym (eq-eqb _ 1 c.if-left-eq1.true))

pub returns-else-left-eq1 : goal.returns-else-left-eq1
returns-else-left-eq1 c = values ∙ ap₂ nexts (sym c.if-awaited.true) (sym (ne_eqb _ 1 c.if-left-eq1.false))

pub returns-then-left-eq1-2 : goal.returns-then-left-eq1-2
returns-then-left-eq1-2 c = last_signs ∙ ap₂ nexts (sym c.if-awaited.false) (sym (eq-eqb _ 1 c.if-left-eq1-2.true))

pub returns-else-left-eq1-2 : goal.returns-else-left-eq1-2
returns-else-left-eq1-2 c = signs ∙ ap₂ nexts (sym c.if-awaited.false) (sym (ne_eqb _ 1 c.if-left-eq1-2.false))
