-- `compile::symbol` meets its contract: the kind picks the symbol; any other kind is a name's, whose number is small. Assumes nothing.
use native.Mathlib.Omega.{arith}
use mathlib.Core.Path.{sym}
use borrow.Author.Tests.{ne_eqb}
use Rattle.compile.specs.Kinds.{symbol_by}
use Rattle.compile.proofs.Steps.{name_small}
use Rattle.compile.proofs.symbol.Goals as goal

pub overflow_cast-result : goal.overflow_cast-result
overflow_cast-result c = omega (arith, name_small c.args.number c.requires)

pub overflow_add-result : goal.overflow_add-result
overflow_add-result c = omega (arith, name_small c.args.number c.requires)

pub returns-in-16 : goal.returns-in-16
unfolding symbol_by
returns-in-16 c = rw c.in-16.is

pub returns-in-17 : goal.returns-in-17
unfolding symbol_by
returns-in-17 c = rw c.in-17.is

pub returns-in-6 : goal.returns-in-6
unfolding symbol_by
returns-in-6 c = rw c.in-6.is

pub returns-in-5 : goal.returns-in-5
unfolding symbol_by
returns-in-5 c = rw c.in-5.is

pub returns-in-4 : goal.returns-in-4
unfolding symbol_by
returns-in-4 c = rw c.in-4.is

pub returns-in_default : goal.returns-in_default
unfolding symbol_by
returns-in_default c = sym (simp (ne_eqb c.args.kind 16 (λ h. omega arith), ne_eqb c.args.kind 17 (λ h. omega arith), ne_eqb c.args.kind 6 (λ h. omega arith), ne_eqb c.args.kind 5 (λ h. omega arith), ne_eqb c.args.kind 4 (λ h. omega arith)) (omega arith))
