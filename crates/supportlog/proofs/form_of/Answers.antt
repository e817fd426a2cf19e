-- `supportlog::form_of` meets its contract, branch by branch. Assumes nothing.
use mathlib.Core.Path.{ap, ◌∙◌}
use Rattle.supportlog.specs.Run.{number_from}
use Rattle.supportlog.proofs.Forms.{form_none, form_plus, form_minus, form_other, form_ask, form_long}
use Rattle.supportlog.proofs.Lining.{tail_is}
use Rattle.supportlog.proofs.form_of.Goals as goal

pub returns-then-line-le0 : goal.returns-then-line-le0
returns-then-line-le0 c = form_none _ c.if-line-le0.true

pub returns-then-first-eq43 : goal.returns-then-first-eq43
returns-then-first-eq43 c = form_plus _ c.if-line-le0.false c.if-first-eq43.true

pub returns-then-first-eq45 : goal.returns-then-first-eq45
returns-then-first-eq45 c =
    let l = c.args.line.now in
    form_minus l c.if-line-le0.false c.if-first-eq43.false c.if-first-eq45.true
    c.number_of.result c.number_form.result (c.number_of.ensures ∙ ap (number_from 0) (tail_is l)) c.number_form.ensures

pub returns-then-first-ne63 : goal.returns-then-first-ne63
returns-then-first-ne63 c = form_other _ c.if-line-le0.false c.if-first-eq43.false c.if-first-eq45.false c.if-first-ne63.true

pub returns-then-line-le1 : goal.returns-then-line-le1
returns-then-line-le1 c = form_ask _ c.if-line-le0.false c.if-first-eq43.false c.if-first-eq45.false c.if-first-ne63.false c.if-line-le1.true

pub returns : goal.returns
returns c = form_long _ c.if-line-le0.false c.if-first-eq43.false c.if-first-eq45.false c.if-first-ne63.false c.if-line-le1.false
