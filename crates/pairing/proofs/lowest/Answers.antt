-- `pairing::lowest` meets its contract. Assumes nothing.
use mathlib.Core.Path.{◌≡◌, sym, ap}
use native.Mathlib.Omega.{arith}
use Rattle.pairing.specs.Masks.{lowest_of}
use Rattle.pairing.proofs.Masking.{lowest_named}
use Rattle.pairing.proofs.lowest.Goals as goal

pub returns-then-names-eq0 : goal.returns-then-names-eq0
returns-then-names-eq0 c = let z : 0 ≡ c.args.names = omega arith in ap lowest_of z

pub returns-else-names-eq0 : goal.returns-else-names-eq0
returns-else-names-eq0 c = sym (lowest_named c.args.names (omega arith))
