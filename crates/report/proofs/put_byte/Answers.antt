-- `report::put_byte` meets its contract: a byte put behind nothing. Assumes nothing.
use native.Mathlib.Omega.{arith}
use Rattle.lists.proofs.Putting.{puts_none, puts_byte}
use Rattle.report.proofs.put_byte.Goals as goal

pub returns : goal.returns
returns c = puts_byte (puts_none c.args.at c.args.out.now (omega arith)) c.args.b c.requires
