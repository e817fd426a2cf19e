-- `plan::evaluations` meets its contract: a power of at most eight fits. Assumes nothing.
use native.Mathlib.Omega.{arith}
use native.Mathlib.Nat.{one-mul, mod-eq_of_lt}
use Prim.Native.Nat.{ℕ, ◌%◌, ◌^◌}
use lib.Pow.{pow-lt}
use mathlib.Core.Path.{ap, ◌∙◌}
use Rattle.plan.proofs.evaluations.Goals as goal

pub returns : goal.returns
returns c =
    let n = c.args.names in
    ap (λ (x : ℕ). x % 2 ^ 64) (one-mul (2 ^ n)) ∙ mod-eq_of_lt (pow-lt {i = n} {j = 64} (omega (arith, c.requires)))
