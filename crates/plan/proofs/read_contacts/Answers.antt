-- `plan::read_contacts` meets its contract: what is left, read from the contacts so far, gives what all words give. Assumes nothing.
use mathlib.Core.Path.{refl, sym, ap, ◌∙◌}
use native.Mathlib.Omega.{arith}
use Rattle.std.specs.Prelude.{Ok, Err}
use Rattle.std.proofs.lemmas.Result.{err_from_is_err_and}
use Rattle.plan.proofs.ReadLoop.{links_start, links_next, links_over, links_short}
use Rattle.plan.proofs.read_contacts.Goals as goal

pub loop-at-init : goal.loop-at-init
loop-at-init c =
    let a = c.args in
    (refl, λ n pts h. links_start a.words.now a.count a.square.now n pts h)

pub returns-in_err-said : goal.returns-in_err-said
returns-in_err-said c =
    let a = c.args in
    let loop = c.loop-at in
    let p = err_from_is_err_and c.from_residual.result c.from_residual.ensures.1 in
    rw (p.1, p.2) (
      λ n pts h. links_over a.words.now a.count n pts h.size loop.at loop.low loop.square (loop.invariant.1 n pts h)
          (omega arith) c.kind_of.result c.kind_of.ensures (Err c.in_err-said.field-0.0) c.in_err-said.ensures,
      loop.invariant.0,
    )

pub returns-in_default : goal.returns-in_default
returns-in_default c =
    let a = c.args in
    let loop = c.loop-at in (
      λ n pts h. links_over a.words.now a.count n pts h.size loop.at loop.low loop.square (loop.invariant.1 n pts h)
          (omega arith) c.kind_of.result c.kind_of.ensures (Ok tt) (sym (ap Ok c.in_default.is) ∙ c.in_ok-said.ensures),
      loop.invariant.0,
    )

pub loop-at-preserved : goal.loop-at-preserved
loop-at-preserved c =
    let a = c.args in
    let loop = c.loop-at in
    let grown = c.link.ensures in (
      grown.long ∙ loop.invariant.0,
      λ n pts h. links_next a.words.now a.count n pts h.size loop.at loop.low loop.square (loop.invariant.1 n pts h)
          (omega arith) c.kind_of.result c.kind_of.ensures c.in-Some.pair (sym (ap Ok c.in-Some.is) ∙ c.in_ok-said.ensures)
          (omega arith) _ grown.rows,
    )

pub returns : goal.returns
returns c =
    let a = c.args in
    let loop = c.loop-at in
    (λ n pts h. links_short a.words.now a.count n pts h.size loop.at loop.low loop.square (loop.invariant.1 n pts h) (omega arith), loop.invariant.0)
