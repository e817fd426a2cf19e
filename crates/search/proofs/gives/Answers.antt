-- `search::gives` meets its contract: a true contact gives its pair, a false zero atom its least allowed evaluation, and the
-- others nothing. Assumes nothing.
use mathlib.Core.Bool.{Bool}
use mathlib.Core.Path.{ap, ap₂, ◌∙◌}
use mathlib.Mathlib.Logic.Function.Defs.{congr_fun}
use Prim.Native.Nat.{ℕ}
use Rattle.lists.specs.Search.{first, below, elem}
use Rattle.evalset.specs.Sets.{room}
use Rattle.squares.specs.Square.{square_at}
use Rattle.search.specs.Tests.{pair_of}
use Rattle.search.proofs.gives.Goals as goal

pub returns-then-value : goal.returns-then-value
returns-then-value c = λ e.
    let a = c.args in
    rw (c.if-contact.true, c.if-value.true)
    (c.pair_of.ensures e
    ∙ ap₂ (λ (f g : ℕ → Bool). elem e (pair_of f g (square_at a.rows.now))) c.meet.ensures c.meet-then-value.ensures)

pub returns-else-value : goal.returns-else-value
returns-else-value c = λ e. rw (c.if-contact.true, c.if-value.false) (congr_fun c.empty.ensures e)

pub returns-then-value-2 : goal.returns-then-value-2
returns-then-value-2 c = λ e. rw (c.if-contact.false, c.if-value-2.true) (congr_fun c.empty-then-value-2.ensures e)

pub returns-else-value-2 : goal.returns-else-value-2
returns-else-value-2 c = λ e.
    rw (c.if-contact.false, c.if-value-2.false)
    (c.least_of.ensures e ∙ ap (λ (f : ℕ → Bool). elem e (first f (below room))) c.meet-else-value-2.ensures)
