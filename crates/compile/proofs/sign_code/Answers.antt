-- `compile::sign_code` meets its contract: the kind picks the code, and any other kind is that of T. Assumes nothing.
use mathlib.Core.Path.{sym}
use native.Mathlib.Omega.{arith}
use borrow.Author.Tests.{ne_eqb}
use Rattle.compile.specs.Kinds.{sign_by}
use Rattle.compile.proofs.sign_code.Goals as goal

pub returns-in-7 : goal.returns-in-7
unfolding sign_by
returns-in-7 c = rw c.in-7.is

pub returns-in-3 : goal.returns-in-3
unfolding sign_by
returns-in-3 c = rw c.in-3.is

pub returns-in-2 : goal.returns-in-2
unfolding sign_by
returns-in-2 c = rw c.in-2.is

pub returns-in-0 : goal.returns-in-0
unfolding sign_by
returns-in-0 c = rw c.in-0.is

pub returns-in-1 : goal.returns-in-1
unfolding sign_by
returns-in-1 c = rw c.in-1.is

pub returns-in-13 : goal.returns-in-13
unfolding sign_by
returns-in-13 c = rw c.in-13.is

pub returns-in_default : goal.returns-in_default
unfolding sign_by
returns-in_default c = sym (simp (ne_eqb c.args.kind 7 (λ h. omega arith), ne_eqb c.args.kind 3 (λ h. omega arith), ne_eqb c.args.kind 2 (λ h. omega arith), ne_eqb c.args.kind 0 (λ h. omega arith), ne_eqb c.args.kind 1 (λ h. omega arith), ne_eqb c.args.kind 13 (λ h. omega arith)))
