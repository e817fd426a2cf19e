-- `explaining::write_word` meets its contract: past the end nothing is set. Assumes nothing.
use mathlib.Core.Path.{sym}
use native.Mathlib.Omega.{arith}
use lib.Seq.{set_out}
use Rattle.explaining.proofs.write_word.Goals as goal

pub returns-else-at-buf : goal.returns-else-at-buf
returns-else-at-buf c = sym (set_out _ _ _ (omega (arith, c.if-at-buf.false)))
