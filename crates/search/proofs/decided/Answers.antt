-- `search::decided` meets its contract, case by case: a false contact separates and forbids, a true zero atom forbids, and the others
-- do nothing. Assumes nothing.
use mathlib.Core.Bool.{and-true, or-false}
use mathlib.Core.Path.{refl, sym, ap, ◌∙◌, fun_ext}
use Rattle.evalset.specs.Sets.{mem, minus_of}
use Rattle.search.proofs.decided.Goals as goal

pub returns-then-value : goal.returns-then-value
returns-then-value c =
    rw (c.if-contact.true, c.if-value.true)
    (record { long = refl; less = fun_ext (λ e. sym (and-true _)); more = λ p q t l m. sym (or-false _) })

pub returns-else-value : goal.returns-else-value
returns-else-value c =
    let a = c.args in
    rw (c.if-contact.true, c.if-value.false)
    (record {
      long = c.parted.ensures.0;
      less = c.minus.ensures ∙ ap (minus_of (mem a.allowed)) c.meet.ensures;
      more = c.parted.ensures.1;
    })

pub returns-then-value-2 : goal.returns-then-value-2
returns-then-value-2 c =
    rw (c.if-contact.false, c.if-value-2.true)
    (record { long = refl; less = c.minus-then-value-2.ensures; more = λ p q t l m. sym (or-false _) })

pub returns-else-value-2 : goal.returns-else-value-2
returns-else-value-2 c =
    rw (c.if-contact.false, c.if-value-2.false)
    (record { long = refl; less = fun_ext (λ e. sym (and-true _)); more = λ p q t l m. sym (or-false _) })
