-- `plan::touches` meets its contract: some row of a point in x meets the positions that lie in y. Assumes nothing.
use native.Mathlib.Omega.{arith}
use mathlib.Core.Path.{ap, ◌∙◌}
use Rattle.evalset.specs.Sets.{room, mem}
use Rattle.squares.specs.Square.{square_at}
use Rattle.plan.specs.Private.{reached_of}
use Rattle.plan.proofs.Positions.{touches_is}
use Rattle.plan.proofs.touches.Goals as goal

pub returns : goal.returns
unfolding room
returns c =
    let a = c.args in
    let n = c.min-n in
    c.reached.ensures ∙ ap (reached_of n.result a.plan.points (square_at a.square.now) (mem a.x))
    c.places-ys.ensures
    ∙ touches_is a.plan n.result n.ensures (omega arith) (square_at a.square.now) (mem a.x) (mem a.y)
