-- `report::depth_at` meets its contract: past the end the default of `get_or` is 0. Assumes nothing.
use mathlib.Core.Path.{sym}
use lib.ListN.{get_or-eq_default}
use Rattle.report.proofs.depth_at.Goals as goal

pub returns-else-i-depths : goal.returns-else-i-depths
returns-else-i-depths c = sym (get_or-eq_default c.args.depths.now 0 c.if-i-depths.false)
