-- What is meant, by the documents' own rules: the plan of a row, as plan words have it. Assumes nothing.
use Rattle.std.specs.Prelude.{◌≡◌, not, List, ℕ, length, get_or}
use Rattle.formula.specs.Formula.{Formula, Name}
use Rattle.contact.specs.Question.{Question}
use Rattle.contact.specs.Numbering.{names_of, row_atoms}
use Rattle.contact.specs.Row.{Row}
use Rattle.contact.specs.Plan.{Mark, row_marks, separated, ArePoints}
use Rattle.plan.specs.Words.{Plan}
use Rattle.plan.specs.Links.{links_to}

-- the plan with these points, by the marks of a row: "All unseparated pairs are in contact.", and so of one building "All unseparated pairs of
-- them are in contact."
unfoldable pub given_plan : ℕ → List Mark → List ℕ → Plan
given_plan names ms points =
    record {
      names = names;
      points = points;
      contacts = links_to (length points) (length points) (λ i j. not (separated ms (get_or points i 0) (get_or points j 0)));
    }

-- the plan of a row of the rules as read: its points are the question's, for the marks of the row; of the atoms that are the same the first
-- writing counts: "The witness of an exchanged contact is taken from its first writing"
pub record IsRowPlan (q : Question) (rules : List (Formula Name)) (row : Row) (p : Plan) : Type 0 where
  pub points : ArePoints q (length (names_of rules)) (row_marks (row_atoms rules) row) p.points
  pub is : p ≡ given_plan (length (names_of rules)) (row_marks (row_atoms rules) row) p.points
