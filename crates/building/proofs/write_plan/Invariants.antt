-- `building::write_plan` is safe and ends: each piece goes on to a later word. Assumes nothing.
use Rattle.std.proofs.Common.{◌-◌}
use Rattle.building.proofs.write_plan.Given as goal

abbrev pub decreases-loop-next : goal.decreases-loop-next
decreases-loop-next g l = l.count - l.next
