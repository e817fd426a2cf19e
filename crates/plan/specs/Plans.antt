-- What is computed: the plan of a row, and the plan that is given for rules. `given_exactly` of proofs/Claims.antt ties it to `IsGiven` of Meant.
-- Assumes nothing.
use Rattle.std.specs.Prelude.{List, map, length}
use Rattle.formula.specs.Formula.{Formula, Name}
use Rattle.contact.specs.Question.{Question}
use Rattle.contact.specs.Numbering.{names_of, row_atoms}
use Rattle.contact.specs.Row.{Row}
use Rattle.contact.specs.Plan.{row_marks}
use Rattle.contact.specs.Check.{points_for, first_row_of}
use Rattle.plan.specs.Words.{Plan}
use Rattle.plan.specs.Given.{given_plan}

-- the plan of a row of the rules as read
unfoldable pub row_plan : Question → List (Formula Name) → Row → Plan
row_plan q rules row =
    let names = length (names_of rules) in let ms = row_marks (row_atoms rules) row in given_plan names ms (points_for q names ms)

-- "The answer uses the first realisable row that makes all rules true": a list of one plan; the empty list is 'no plan'
unfoldable pub plans_of : Question → List (Formula Name) → List Plan
plans_of q rules = map (row_plan q rules) (first_row_of q rules)
