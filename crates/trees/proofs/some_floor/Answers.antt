-- `trees::some_floor` meets its contract: by the law of pairs. Assumes nothing.
use Rattle.pairing.specs.Words.{within}
use Rattle.trees.specs.Branch.{FloorSays}
use Rattle.trees.proofs.Floors.{floor_is}
use native.Mathlib.Omega.{arith}
use Rattle.trees.proofs.some_floor.Goals as goal

pub returns : goal.returns
unfolding FloorSays within
returns c = λ names atoms few contacts serving part h.
    floor_is names atoms few _ contacts _ serving _ part h c.served.result (omega arith) c.served.ensures
