-- `evalset::word_below` meets its contract: the low 2 ^ d bits; from 6 up they are all there are.
-- Assumes nothing.
use mathlib.Core.Path.{refl, sym, ◌∙◌, fun_ext}
use native.Mathlib.Omega.{arith}
use lib.Pow.{pow-lt}
use Rattle.evalset.specs.Bit.{word_bits, word_levels}
use Rattle.evalset.proofs.Bits.{low_some, bit_low, bit_ones}
use Rattle.evalset.proofs.Members.{below_in_few, below_in_all}
use Rattle.evalset.proofs.word_below.Goals as goal

pub overflow_shl-result-then-d-lt6 : goal.overflow_shl-result-then-d-lt6
overflow_shl-result-then-d-lt6 c = omega (arith, pow-lt {i = c.args.d} {j = word_levels} c.if-d-lt6.true)

pub overflow_sub-result : goal.overflow_sub-result
overflow_sub-result c = low_some word_bits _ (pow-lt {j = word_levels} c.if-d-lt6.true) (omega arith)

pub returns-then-d-lt6 : goal.returns-then-d-lt6
returns-then-d-lt6 c =
    fun_ext
    (λ e. bit_low word_bits _ (pow-lt {j = word_levels} c.if-d-lt6.true) (omega arith) e
    ∙ sym (below_in_few word_bits word_levels refl _ (omega arith) e))

pub returns-else-d-lt6 : goal.returns-else-d-lt6
returns-else-d-lt6 c = fun_ext (λ e. bit_ones word_bits e ∙ sym (below_in_all word_bits word_levels refl _ c.if-d-lt6.false e))
