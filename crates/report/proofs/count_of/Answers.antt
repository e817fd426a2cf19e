-- `report::count_of` meets its contract: as many as are counted, and no more than there are. Assumes nothing.
use native.Mathlib.Omega.{arith}
use mathlib.Core.Path.{◌≡◌}
use lib.ListN.{length}
use Rattle.report.proofs.Kept.{known_count}
use Rattle.report.proofs.count_of.Goals as goal

pub returns : goal.returns
returns c =
    let long : length c.args.names.list ≡ 8 = c.well_formed.0.1.1.0.1.0.1 in
    (omega (arith, known_count c.args.names, long, c.min.ensures), omega (arith, c.min.ensures))
