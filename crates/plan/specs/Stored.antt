-- What is meant: a plan in an array of its points and the rows of its contacts beside it. Assumes nothing.
use Rattle.std.specs.Prelude.{◌≡◌, Bool, ◌&&◌, ℕ, ltb, length}
use Rattle.lists.specs.Padded.{pad}
use Rattle.squares.specs.Square.{square_at}
use Rattle.plan.specs.declared.PlanPoints.{PlanPoints}
use Rattle.plan.specs.declared.PlanArrays.{PlanArrays}
use Rattle.plan.specs.Words.{Plan, most_points}
use Rattle.plan.specs.Floor.{touching}

-- "A plan's contacts form a square of bits, one row for each point": row a has position b
unfoldable pub square : Plan → ℕ → ℕ → Bool
square p a b = (ltb a (length p.points) && ltb b (length p.points)) && touching p a b

-- the points and the rows beside them are those of this plan; past its points there are zeros, and outside its square no contact
pub record Holds (r : PlanPoints) (t : ℕ → ℕ → Bool) (p : Plan) : Type 0 where
  pub names : r.names ≡ p.names
  pub count : r.count ≡ length p.points
  pub points : r.points ≡ pad most_points p.points
  pub rows : t ≡ square p

-- the arrays without the rows
abbrev pub points_of : PlanArrays → PlanPoints
points_of r = record { names = r.names; count = r.count; points = r.points }

-- the arrays hold this plan
abbrev pub Stored : PlanArrays → Plan → Type 0
Stored r p = Holds (points_of r) (square_at r.rows) p
