-- `evalset::word_of` meets its contract: bit e of word k is evaluation 64 * k + e, and from 4 up there is none.
-- Assumes nothing.
use mathlib.Core.Path.{sym, ◌∙◌}
use native.Mathlib.Omega.{arith}
use Rattle.evalset.specs.Sets.{room}
use Rattle.evalset.proofs.Bits.{bit_none}
use Rattle.evalset.proofs.Members.{mem_above}
use Rattle.evalset.proofs.Words.{mem_word}
use Rattle.evalset.proofs.word_of.Goals as goal

pub returns-then-k-lt4 : goal.returns-then-k-lt4
returns-then-k-lt4 c = λ e l. sym (mem_word _ _ e c.if-k-lt4.true l)

pub returns-else-k-lt4 : goal.returns-else-k-lt4
unfolding room
returns-else-k-lt4 c = λ e l. bit_none e ∙ sym (mem_above _ _ (omega (arith, c.if-k-lt4.false)))
