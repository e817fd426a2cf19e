-- `exercises::spelling` meets its contract: its table has the bytes of each token. Assumes nothing.
use mathlib.Core.List.{List}
use Prim.Native.Nat.{ℕ}
use lib.ListN.{get_or-map}
use Rattle.std.specs.Borrow.{Bor}
use Rattle.exercises.proofs.Tables.{byte_right}
use Rattle.exercises.proofs.spelling.Goals as goal

pub returns : goal.returns
returns c = rw (← get_or-map (λ (b : Bor (List ℕ)). b.now)) (byte_right c.place.result c.args.k c.place.ensures.0 c.place.ensures.1)
