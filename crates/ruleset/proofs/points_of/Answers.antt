-- `ruleset::points_of` meets its contract: what search's `points_of` finds of the compiled rules' chart is the plan of the row (Claims.antt).
-- Assumes nothing.
use Rattle.ruleset.specs.Texts.{RowPlanIs}
use Rattle.ruleset.proofs.Claims.{answer_row_plan}
use Rattle.ruleset.proofs.points_of.Goals as goal

pub returns : goal.returns
unfolding RowPlanIs
returns c =
    let found = c.points_of in
    (found.ensures.0, λ rules kept code h. answer_row_plan rules _ kept code h _ _ _ _ found.ensures.1)
