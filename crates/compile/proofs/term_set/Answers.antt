-- `compile::term_set` meets its contract: the kind picks the set, and any other kind is +. Assumes nothing.
use Prim.Native.Nat.{ℕ}
use mathlib.Core.Bool.{Bool}
use mathlib.Core.Path.{sym, ap, ◌∙◌}
use native.Mathlib.Omega.{arith}
use borrow.Author.Tests.{ne_eqb}
use Rattle.evalset.specs.Sets.{mem, minus_of}
use Rattle.compile.specs.Kinds.{set_by}
use Rattle.compile.proofs.term_set.Goals as goal

pub returns-in-16 : goal.returns-in-16
unfolding set_by
returns-in-16 c = rw c.in-16.is c.empty.ensures

pub returns-in-17 : goal.returns-in-17
unfolding set_by
returns-in-17 c = rw c.in-17.is c.full.ensures

pub returns-in-18 : goal.returns-in-18
unfolding set_by
returns-in-18 c = rw c.in-18.is c.name_set.ensures

pub returns-in-6 : goal.returns-in-6
unfolding set_by
returns-in-6 c = rw c.in-6.is (c.minus.ensures ∙ ap (λ (p : ℕ → Bool). minus_of p (mem c.args.x)) c.full-in-6.ensures)

pub returns-in-5 : goal.returns-in-5
unfolding set_by
returns-in-5 c = rw c.in-5.is c.meet.ensures

pub returns-in_default : goal.returns-in_default
unfolding set_by
returns-in_default c = c.join.ensures ∙ sym (simp (ne_eqb c.args.kind 16 (λ h. omega arith), ne_eqb c.args.kind 17 (λ h. omega arith), ne_eqb c.args.kind 18 (λ h. omega arith), ne_eqb c.args.kind 6 (λ h. omega arith), ne_eqb c.args.kind 5 (λ h. omega arith)))
