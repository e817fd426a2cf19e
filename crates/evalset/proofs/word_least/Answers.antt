-- `evalset::word_least` meets its contract: the trailing zeros are the place of the lowest set bit.
-- Assumes nothing.
use mathlib.Core.Path.{sym, ap}
use native.Mathlib.Nat.{pos_of_ne-zero, lt_of_le_of_lt}
use native.Mathlib.Omega.{arith}
use lib.Count.{trailing_le}
use lib.Dec.{lit<}
use Rattle.evalset.specs.Bit.{word_bits}
use Rattle.evalset.specs.Sets.{found_of}
use Rattle.evalset.proofs.Bits.{first_bit, first_zero}
use Rattle.evalset.proofs.word_least.Goals as goal

pub overflow_cast-result : goal.overflow_cast-result
overflow_cast-result c = record { fits = lt_of_le_of_lt (trailing_le _ _) (lit< tt) }

pub returns-then-w-eq0 : goal.returns-then-w-eq0
returns-then-w-eq0 c = sym (ap found_of (first_zero word_bits _ c.if-w-eq0.true))

pub returns-else-w-eq0 : goal.returns-else-w-eq0
returns-else-w-eq0 c = sym (ap found_of (first_bit word_bits _ (pos_of_ne-zero c.if-w-eq0.false) (omega arith)))
