-- The numbers of rows are in range: a row of k atoms with d more has a number below 2 ^ (k + d), and there are at most 16 atoms.
-- Assumes nothing.
use mathlib.Core.Path.{◌≡◌, sym, ap, subst}
use Prim.Native.Nat.{ℕ, suc, ◌+◌, ◌-◌, ◌*◌, ◌%◌, ◌^◌, ◌≤◌, ◌<◌}
use native.Mathlib.Nat.{mul-le-mul_right, mod-eq_of_lt}
use native.Mathlib.Omega.{arith}
use lib.Pow.{pow-add, pow_mono, pow_pos, ones_lt}

pub row_small : (k row : ℕ) → k ≤ 16 → row < 2 ^ k → row < 65536
row_small k row l h = omega (arith, pow_mono {i = k} {j = 16} l)

pub under_fits : (k d row e : ℕ) → row < 2 ^ k → e < 2 ^ d → row * 2 ^ d + e < 2 ^ (k + d)
under_fits k d row e l m =
    let w : suc row * 2 ^ d ≤ 2 ^ k * 2 ^ d = mul-le-mul_right (2 ^ d) l in
    let y : 2 ^ (k + d) ≡ 2 ^ k * 2 ^ d = pow-add 2 k d in
    let v : suc row * 2 ^ d ≡ row * 2 ^ d + 2 ^ d = omega arith in
    omega (arith, w, y, v)

-- the rows with d atoms more, as the code has them
module _ (k d row : ℕ) (few : k + d ≤ 16) (fits : row < 2 ^ k) where
  first_small : row * 2 ^ d < 65536
  first_small = let l = under_fits k d row 0 fits (pow_pos d) in row_small (k + d) (row * 2 ^ d) few (omega (arith, l))

  pub start_is : (row * 2 ^ d) % 18446744073709551616 ≡ row * 2 ^ d
  start_is = mod-eq_of_lt (let l = first_small in omega (arith, l))

  pub start_small : (row * 2 ^ d) % 18446744073709551616 < 4294967232
  start_small = omega (arith, start_is, first_small)

  module _ (e : ℕ) (l : e < 2 ^ d) where
    pub next_is : (row * 2 ^ d) % 18446744073709551616 + e ≡ row * 2 ^ d + e
    next_is = ap (λ (x : ℕ). x + e) start_is

    pub next_fits : (row * 2 ^ d) % 18446744073709551616 + e < 2 ^ (k + d)
    next_fits = subst (λ (x : ℕ). x < 2 ^ (k + d)) (sym next_is) (under_fits k d row e fits l)

-- the low bits of a block
pub low_small : (d low : ℕ) → d ≤ 10 → low ≡ 2 ^ d - 1 → low < 1024
low_small d low l e = omega (arith, e, ones_lt d, pow_mono {i = d} {j = 10} l)
