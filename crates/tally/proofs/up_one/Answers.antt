-- `tally::up_one` meets its contract: below the greatest value and at it. Assumes nothing.
use native.Mathlib.Omega.{arith}
use native.Mathlib.Decide.{dec_lt}
use mathlib.Core.Path.{◌≡◌}
use Prim.Native.Nat.{ℕ, ◌+◌, ◌≤◌, ◌<◌, min}
use Rattle.tally.specs.Count.{greatest, up_one}
use Rattle.tally.proofs.Counts.{up_below, up_at}
use Rattle.tally.proofs.up_one.Goals as goal

one_more : (n : ℕ) → n ≤ greatest → min (n + 1) greatest ≡ up_one n
one_more n h = go (dec_lt n greatest)
  where
    go : Dec (n < greatest) → min (n + 1) greatest ≡ up_one n
    go (yes l) = omega (arith, up_below n l)
    go (no m) = omega (arith, up_at n (omega arith))

pub returns : goal.returns
returns c = let more = one_more c.args.n (omega arith) in omega arith
