-- `kleene::flipped` meets its contract: a word less than all ones has the other bits.
-- Assumes nothing.
use native.Mathlib.Omega.{arith}
use Rattle.evalset.proofs.Bits.{bit_not}
use Rattle.kleene.specs.Rails.{word_rows}
use Rattle.kleene.proofs.flipped.Goals as goal

pub returns : goal.returns
returns c = λ e l. bit_not word_rows _ e (omega arith) l
