-- `evalset::word_mask` meets its contract: the table of masks passes its test, which antt computes; from 6 up no number of a bit has the bit.
-- Assumes nothing.
use mathlib.Core.List.{[], List, ◌∷◌}
use Prim.Native.Nat.{ℕ}
use mathlib.Core.Path.{refl, sym, ◌∙◌, fun_ext}
use Rattle.evalset.specs.Bit.{word_bits, word_levels, bit}
use Rattle.evalset.proofs.Bits.{bit_none}
use Rattle.evalset.proofs.Members.{name_in_none}
use Rattle.evalset.proofs.Table.{mask_bits}
use Rattle.evalset.proofs.word_mask.Goals as goal

masks : List ℕ
masks =
    0xAAAA_AAAA_AAAA_AAAA ∷ 0xCCCC_CCCC_CCCC_CCCC ∷ 0xF0F0_F0F0_F0F0_F0F0 ∷ 0xFF00_FF00_FF00_FF00 ∷ 0xFFFF_0000_FFFF_0000
    ∷ 0xFFFF_FFFF_0000_0000 ∷ []

pub returns-then-i-lt6 : goal.returns-then-i-lt6
unfolding bit masks
returns-then-i-lt6 c = fun_ext (mask_bits masks refl c.args.i c.if-i-lt6.true)

pub returns-else-i-lt6 : goal.returns-else-i-lt6
returns-else-i-lt6 c = fun_ext bit_none ∙ sym (name_in_none word_bits word_levels refl _ c.if-i-lt6.false)
