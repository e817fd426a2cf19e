-- `supportlog::number_of` meets its contract: the number so far, with the digits that are left behind it, is the whole number. Assumes nothing.
use mathlib.Core.Path.{◌≡◌}
use Prim.Native.Nat.{◌≤◌}
use lib.ListN.{drop}
use Rattle.supportlog.specs.Run.{number_from}
use Rattle.supportlog.proofs.number_of.Given as goal

abbrev pub invariant-loop-d : goal.invariant-loop-d
invariant-loop-d l = (l.n ≤ 9999) × (number_from l.n (drop l.d-index l.digits) ≡ number_from 0 l.digits)
