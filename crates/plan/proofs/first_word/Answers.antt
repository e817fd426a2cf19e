-- `plan::first_word` meets its contract, by the number of names. Assumes nothing.
use mathlib.Core.Path.{sym}
use native.Mathlib.Omega.{arith}
use Rattle.plan.proofs.Spelling.{short_is, long_is}
use Rattle.plan.proofs.first_word.Goals as goal

pub returns-in-0-to-6 : goal.returns-in-0-to-6
returns-in-0-to-6 c = let a = c.args in sym (short_is a.names a.n (omega arith))

pub returns-in_default : goal.returns-in_default
returns-in_default c = let a = c.args in sym (long_is a.names a.n (omega arith))
