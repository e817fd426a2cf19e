-- `plan::set_bit` meets its contract: a row is four words. Assumes nothing.
use Prim.Native.Nat.{◌+◌, ◌*◌, ◌/◌}
use native.Mathlib.Omega.{arith}
use Rattle.evalset.specs.Bit.{word_bits}
use Rattle.squares.proofs.Rows.{wide_is}
use Rattle.plan.proofs.Flat.{bit_set}
use Rattle.plan.proofs.set_bit.Goals as goal

pub returns : goal.returns
returns c =
    let a = c.args in
    bit_set a.square.now 4 (wide_is a.square.now (λ z. omega (arith, z, c.requires.0))) a.i a.j c.with_bit.result (4 * a.i + a.j / word_bits) (omega arith)
    (omega (arith, c.requires.0, c.requires.1, c.requires.2)) (omega (arith, c.requires.2)) c.with_bit.ensures
