-- `plan::is_vacant` meets its contract: no position lies in t. Assumes nothing.
use native.Mathlib.Omega.{arith}
use mathlib.Core.Path.{ap, ◌∙◌}
use mathlib.Core.Bool.{Bool, not}
use Prim.Native.Nat.{ℕ}
use Rattle.lists.specs.Search.{any, below}
use Rattle.evalset.specs.Sets.{room, mem}
use Rattle.plan.proofs.Positions.{vacant_is}
use Rattle.plan.proofs.is_vacant.Goals as goal

pub returns : goal.returns
unfolding room
returns c =
    let a = c.args in
    let n = c.min-n.ensures in
    c.is_empty.ensures ∙ ap (λ (p : ℕ → Bool). not (any p (below room))) c.places.ensures
    ∙ vacant_is a.plan _ n (omega arith) (mem a.t)
