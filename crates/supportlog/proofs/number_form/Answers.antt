-- `supportlog::number_form` meets its contract. Assumes nothing.
use mathlib.Core.Path.{sym, ap}
use mathlib.Core.Bool.{Bool, cond}
use borrow.Author.Tests.{eq-eqb, ne_eqb}
use Rattle.supportlog.specs.declared.Form.TheVariants as Form
use Rattle.supportlog.proofs.number_form.Goals as goal

pub returns-then-k-eq0 : goal.returns-then-k-eq0
returns-then-k-eq0 c = sym (ap (λ (b : Bool). cond b Form.Other (Form.Withdraw c.args.k)) (eq-eqb c.args.k 0 c.if-k-eq0.true))

pub returns : goal.returns
returns c = sym (ap (λ (b : Bool). cond b Form.Other (Form.Withdraw c.args.k)) (ne_eqb c.args.k 0 c.if-k-eq0.false))
