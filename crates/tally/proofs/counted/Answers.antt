-- `tally::counted` meets its contract: in each case the count of the kind is raised (Counts.antt). Assumes nothing.
use Rattle.tally.specs.declared.Kind.TheVariants.{Added, Withdrawn, Plan, NoPlan, Refused}
use Rattle.tally.proofs.Counts.{raised}
use Rattle.tally.proofs.counted.Goals as goal

pub returns-in-Added : goal.returns-in-Added
returns-in-Added c = raised Added _ _ c.up_one.ensures _ c.in-Added.is

pub returns-in-Withdrawn : goal.returns-in-Withdrawn
returns-in-Withdrawn c = raised Withdrawn _ _ c.up_one-in-Withdrawn.ensures _ c.in-Withdrawn.is

pub returns-in-Plan : goal.returns-in-Plan
returns-in-Plan c = raised Plan _ _ c.up_one-in-Plan.ensures _ c.in-Plan.is

pub returns-in-NoPlan : goal.returns-in-NoPlan
returns-in-NoPlan c = raised NoPlan _ _ c.up_one-in-NoPlan.ensures _ c.in-NoPlan.is

pub returns-in-Refused : goal.returns-in-Refused
returns-in-Refused c = raised Refused _ _ c.up_one-in-Refused.ensures _ c.in-Refused.is
