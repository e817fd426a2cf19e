-- `pairing::low_bits` meets its contract. Assumes nothing.
use mathlib.Core.Path.{◌≡◌, ap, ◌∙◌}
use Prim.Native.Nat.{ℕ, ◌-◌, ◌*◌, ◌%◌, ◌^◌, ◌≤◌}
use native.Mathlib.Omega.{arith}
use native.Mathlib.Nat.{one-mul, mod-eq_of_lt}
use lib.Pow.{pow-lt, pow_pos}
use Rattle.pairing.proofs.low_bits.Goals as goal

shifted : (d : ℕ) → d ≤ 10 → (1 * 2 ^ d) % 4294967296 ≡ 2 ^ d
shifted d l = ap (λ (x : ℕ). x % 2 ^ 32) (one-mul (2 ^ d)) ∙ mod-eq_of_lt (pow-lt {i = d} {j = 32} (omega arith))

pub overflow_sub-result : goal.overflow_sub-result
overflow_sub-result c = omega (arith, shifted _ c.requires, pow_pos c.args.d)

pub returns : goal.returns
returns c = ap (λ (x : ℕ). x - 1) (shifted _ c.requires)
