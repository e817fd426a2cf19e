-- `plan::places` meets its contract: four words of the positions, and none past the last of them. Assumes nothing.
use native.Mathlib.Omega.{arith}
use mathlib.Core.Path.{ap}
use mathlib.Core.Bool.{Bool, ◌&&◌}
use lib.ListN.{get_or}
use borrow.Author.Tests.{le-ltb}
use Rattle.evalset.specs.Sets.{room, mem}
use Rattle.evalset.specs.Arrays.{positions_of}
use Rattle.evalset.proofs.Words.{made}
use Rattle.plan.proofs.places.Goals as goal

pub returns : goal.returns
unfolding positions_of room
returns c =
    let a = c.args in
    made (positions_of a.n a.points (mem a.x)) _ _ _ _ c.place_word.ensures c.place_word-2.ensures c.place_word-3.ensures
    c.place_word-4.ensures
    (λ e l. ap (λ (b : Bool). b && mem a.x (get_or a.points e 0)) (le-ltb e a.n (omega arith)))
