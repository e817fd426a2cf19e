-- `solver::all_evaluations` meets its contract: a shift by at most six names is their power of two. Assumes nothing.
use mathlib.Core.Path.{ap, ◌∙◌}
use Prim.Native.Nat.{ℕ, ◌%◌, ◌^◌}
use native.Mathlib.Nat.{one-mul, mod-eq_of_lt}
use native.Mathlib.Omega.{arith}
use lib.Pow.{pow-lt}
use Rattle.solver.proofs.all_evaluations.Goals as goal

pub returns : goal.returns
returns c =
    let n = c.min.result in
    ap (λ (x : ℕ). x % 18446744073709551616) (one-mul (2 ^ n)) ∙ mod-eq_of_lt (pow-lt {i = n} {j = 64} (omega (arith, c.min.ensures)))
    ∙ ap (λ (x : ℕ). 2 ^ x) c.min.ensures
