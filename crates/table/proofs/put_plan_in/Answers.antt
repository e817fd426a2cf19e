-- `table::put_plan_in` meets its contract: the plan of the points, by what the square has apart, is that of the row. Assumes nothing.
use mathlib.Core.Path.{subst}
use Rattle.plan.specs.Words.{Plan}
use Rattle.plan.specs.Arrays.{Writes}
use Rattle.ruleset.specs.Texts.{RowPlanIs}
use Rattle.table.specs.Steps.{PlanPut}
use Rattle.table.proofs.put_plan_in.Goals as goal

pub returns : goal.returns
unfolding PlanPut RowPlanIs
returns c = λ rules kept code h.
    let put = c.write_plan in
    subst (λ (p : Plan). Writes p c.args.buffer.now put.result put.new.buffer) (c.points_of-points.ensures.1 rules kept code h) put.ensures
