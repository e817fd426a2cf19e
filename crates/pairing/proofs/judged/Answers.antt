-- `pairing::judged` meets its contract: the words are put, and the sums made. Assumes nothing.
use mathlib.Core.Path.{◌≡◌, ◌∙◌, subst}
use mathlib.Core.List.{List}
use Prim.Native.Nat.{ℕ, ◌+◌, ◌-◌, ◌*◌, ◌/◌, ◌%◌, ◌^◌, ◌≤◌, ◌<◌}
use native.Mathlib.Nat.{mod-eq_of_lt}
use native.Mathlib.Omega.{arith}
use lib.Bits.{bit_or, bit_xor}
use lib.Pow.{pow_mono, pow_pos, ones_lt}
use Rattle.pairing.specs.Words.{Judges}
use Rattle.pairing.specs.Listed.{Takes, puts_all}
use Rattle.pairing.proofs.Judging.{row_small, left_of, row_judged}
use Rattle.pairing.proofs.judged.Goals as goal

-- the number of the first row
start_small : (row d : ℕ) → row < 65536 → d ≤ 10 → row * 2 ^ d < 67108864
start_small row d l k =
    let top = row_small 16 d row 0 l (pow_pos d) in
    omega (arith, top, pow_mono {i = 16 + d} {j = 26} (omega arith))

start_is : (row d : ℕ) → row < 65536 → d ≤ 10 → (row * 2 ^ d) % 18446744073709551616 ≡ row * 2 ^ d
start_is row d l k = mod-eq_of_lt (let w = start_small row d l k in omega (arith, w))

-- what was put, with what is left and the low bits written out
written : (s C d row x l : ℕ) (ws zeros t : List ℕ) → x ≡ row * 2 ^ d → l ≡ 2 ^ d - 1
    → Takes (puts_all s (bit_or (bit_xor x C) l) l ws) zeros t → Takes (puts_all s (left_of C d row) (2 ^ d - 1) ws) zeros t
written s C d row x l ws zeros t p q h =
    subst (λ (y : ℕ). Takes (puts_all s (bit_or (bit_xor (row * 2 ^ d) C) y) y ws) zeros t) q
    (subst (λ (y : ℕ). Takes (puts_all s (bit_or (bit_xor y C) l) l ws) zeros t) p h)

pub overflow_cast-left : goal.overflow_cast-left
overflow_cast-left c = omega (arith, start_is c.args.row c.args.d c.requires.2 c.requires.1, start_small c.args.row c.args.d c.requires.2 c.requires.1)

pub put_all-requires : goal.put_all-requires
put_all-requires c =
    (c.zeros-table.ensures.0, omega (arith, c.low_bits-low.ensures, ones_lt c.args.d, pow_mono {i = c.args.d} {j = 10} c.requires.1), c.requires.0)

pub returns : goal.returns
unfolding Judges
returns c =
    let a = c.args in
    let zeros = c.zeros-table in
    let low = c.low_bits-low in
    let put = c.put_all in (
      c.sums.ensures.long ∙ put.ensures.long ∙ zeros.ensures.0,
      λ names atoms k whole few l contacts serving e le.
          row_judged names atoms k a.d a.s a.row a.contacts a.list.now whole few l contacts serving put.new.table c.sums.new.table zeros.result zeros.ensures.1
          (written a.s (a.contacts / 2 ^ a.s) a.d a.row _ _ a.list.now zeros.result put.new.table (start_is a.row a.d c.requires.2 c.requires.1) low.ensures put.ensures)
          c.sums.ensures e le,
    )
