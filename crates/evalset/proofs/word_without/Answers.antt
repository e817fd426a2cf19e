-- `evalset::word_without` meets its contract: bit e taken away; from 64 up there is none.
-- Assumes nothing.
use mathlib.Core.Path.{sym, fun_ext}
use native.Mathlib.Omega.{arith}
use Rattle.evalset.specs.Bit.{word_bits}
use Rattle.evalset.proofs.Bits.{bit_drop, bit_above}
use Rattle.evalset.proofs.Members.{drop_out}
use Rattle.evalset.proofs.word_without.Goals as goal

pub returns-then-e-lt64 : goal.returns-then-e-lt64
returns-then-e-lt64 c = fun_ext (λ i. bit_drop word_bits _ _ i (omega arith) (omega arith))

pub returns-else-e-lt64 : goal.returns-else-e-lt64
returns-else-e-lt64 c = sym (drop_out _ _ (bit_above word_bits _ _ (omega arith) c.if-e-lt64.false))
