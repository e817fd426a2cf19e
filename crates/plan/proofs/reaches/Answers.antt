-- `plan::reaches` meets its contract: a set is not empty exactly if some number is in it. Assumes nothing.
use mathlib.Core.Path.{sym, ap, ◌∙◌}
use mathlib.Core.Bool.{Bool, not, ◌&&◌, not-not}
use Prim.Native.Nat.{ℕ}
use Rattle.lists.specs.Search.{any, below}
use Rattle.evalset.specs.Sets.{mem, meet_of, room}
use Rattle.plan.specs.Private.{reaches_of}
use Rattle.plan.proofs.reaches.Goals as goal

pub returns-then-contains : goal.returns-then-contains
unfolding reaches_of
returns-then-contains c =
    let a = c.args in
    ap not c.is_empty.ensures ∙ not-not (any (mem c.meet.result) (below room))
    ∙ ap (λ (p : ℕ → Bool). any p (below room)) c.meet.ensures
    ∙ sym (ap (λ (v : Bool). v && any (meet_of (mem a.row) (mem a.ys)) (below room))
    (sym c.contains.ensures ∙ c.if-contains.true))

pub returns-else-contains : goal.returns-else-contains
unfolding reaches_of
returns-else-contains c =
    let a = c.args in
    c.if-contains.false
    ∙ sym (ap (λ (v : Bool). v && any (meet_of (mem a.row) (mem a.ys)) (below room))
    (sym c.contains.ensures ∙ c.if-contains.false))
