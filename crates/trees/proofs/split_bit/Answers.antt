-- `trees::split_bit` meets its contract: a word of kind 5 that names an atom of the table which the branch has not decided. Assumes nothing.
use native.Mathlib.Omega.{arith}
use Rattle.evalset.specs.Bit.{bit}
use Rattle.trees.proofs.Words.{split_kind, split_past, split_known, split_on}
use borrow.Author.Tests.{eq-eqb, ne_eqb}
use Rattle.trees.proofs.split_bit.Goals as goal

pub returns-then-a-many : goal.returns-then-a-many
returns-then-a-many c = split_past _ _ _ c.in-5.is c.if-a-many.true

pub returns-then-known-at-eq1 : goal.returns-then-known-at-eq1
unfolding bit
returns-then-known-at-eq1 c = split_known _ _ _ c.in-5.is c.if-a-many.false (eq-eqb _ 1 c.if-known-at-eq1.true)

pub returns-else-known-at-eq1 : goal.returns-else-known-at-eq1
unfolding bit
returns-else-known-at-eq1 c = split_on _ _ _ c.in-5.is c.if-a-many.false (ne_eqb _ 1 c.if-known-at-eq1.false) c.requires

pub returns-in_default-a : goal.returns-in_default-a
returns-in_default-a c = split_past _ _ _ c.in-5.is (omega (arith, c.requires))

pub returns-in_default : goal.returns-in_default
returns-in_default c = split_kind _ _ _ (omega arith)
