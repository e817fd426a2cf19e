-- `compile::number_at` meets its contract: a name's number is a byte, which fits, and past the last one stands 0. Assumes nothing.
use mathlib.Core.Path.{sym}
use native.Mathlib.Omega.{arith}
use lib.ListN.{get_or-eq_default}
use Rattle.compile.proofs.number_at.Goals as goal

pub overflow_cast-result : goal.overflow_cast-result
overflow_cast-result c = omega (arith, c.type_inv.numbers c.args.at)

pub returns-else-at-numbers : goal.returns-else-at-numbers
returns-else-at-numbers c = sym (get_or-eq_default c.args.numbers.now 0 {n = c.args.at} (omega arith))
