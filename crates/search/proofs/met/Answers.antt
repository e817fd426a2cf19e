-- `search::met` meets its contract: a pair is found exactly if one is there. Assumes nothing.
use mathlib.Core.Bool.{Bool, not, not-not}
use mathlib.Core.Path.{ap, ap₂, ◌∙◌, fun_ext}
use Prim.Native.Nat.{ℕ}
use Rattle.lists.specs.Search.{any, below}
use Rattle.evalset.specs.Sets.{room}
use Rattle.squares.specs.Square.{square_at}
use Rattle.search.specs.Tests.{starts_of}
use Rattle.search.proofs.Meeting.{pair_some}
use Rattle.search.proofs.met.Goals as goal

pub returns-then-value : goal.returns-then-value
returns-then-value c =
    let a = c.args in
    rw (c.if-contact.true, c.if-value.true)
    (ap not c.is_empty.ensures ∙ not-not _
    ∙ ap (λ (p : ℕ → Bool). any p (below room)) (fun_ext c.pair_of-pair.ensures) ∙ pair_some _ _ _
    ∙ ap₂ (λ (f g : ℕ → Bool). any (starts_of f g (square_at a.rows.now)) (below room)) c.meet-first.ensures
    c.meet.ensures)

pub returns-else-value-2 : goal.returns-else-value-2
returns-else-value-2 c =
    rw (c.if-contact.false, c.if-value-2.false)
    (ap not c.is_empty-else-value-2.ensures ∙ not-not _ ∙ ap (λ (p : ℕ → Bool). any p (below room)) c.meet-first.ensures)
