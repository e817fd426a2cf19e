-- `evalset::all_bits` meets its contract: ones, or none.
-- Assumes nothing.
use mathlib.Core.Path.{sym, ◌∙◌}
use borrow.Author.Tests.{lt-ltb}
use Rattle.evalset.specs.Bit.{word_bits}
use Rattle.evalset.proofs.Bits.{bit_ones, bit_none}
use Rattle.evalset.proofs.all_bits.Goals as goal

pub returns-then-wanted : goal.returns-then-wanted
returns-then-wanted c = λ e l. bit_ones word_bits e ∙ lt-ltb e word_bits l ∙ sym c.if-wanted.true

pub returns-else-wanted : goal.returns-else-wanted
returns-else-wanted c = λ e l. bit_none e ∙ sym c.if-wanted.false
