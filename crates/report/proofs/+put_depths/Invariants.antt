-- `report::put_depths` ends: the branches of a split lie deeper, and a split lies at most fifteen deep. Assumes nothing.
use Rattle.std.proofs.Common.{◌-◌}
use Rattle.report.proofs.+put_depths.Given as goal

abbrev pub decreases-put_depths : goal.decreases-put_depths
decreases-put_depths l = 16 - l.depth
