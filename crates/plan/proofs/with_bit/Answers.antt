-- `plan::with_bit` meets its contract: bit e put in. Assumes nothing.
use Rattle.evalset.specs.Bit.{word_bits}
use Rattle.evalset.proofs.Bits.{bit_add}
use Rattle.plan.proofs.with_bit.Goals as goal

pub returns : goal.returns
returns c = λ i. bit_add word_bits _ _ i c.requires
