-- A call of `explaining::put` has one atom less to decide. Assumes nothing.
use Prim.Native.Nat.{◌-◌}
use Rattle.explaining.proofs.+put.Given as goal

abbrev pub decreases-put : goal.decreases-put
decreases-put l = l.n - l.k
