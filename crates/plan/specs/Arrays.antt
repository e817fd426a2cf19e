-- What is computed: what the public functions answer: what reading words gives, the plan of a set of points and what writing a plan gives,
-- and the two kinds of atoms judged on points and their rows. Assumes nothing.
use Rattle.std.specs.Prelude.{◌≡◌, Bool, not, ◌&&◌, cond, List, ℕ, min, leb, length, get_or, Result, Ok, Err}
use Rattle.lists.specs.declared.ShortBuffer.{ShortBuffer}
use Rattle.lists.specs.Search.{any, keep, below}
use Rattle.lists.specs.Buffer.{over}
use Rattle.evalset.specs.Sets.{room}
use Rattle.plan.specs.declared.PlanPoints.{PlanPoints}
use Rattle.plan.specs.declared.PlanArrays.{PlanArrays}
use Rattle.plan.specs.declared.NotAPlan.{NotAPlan}
use Rattle.plan.specs.Words.{Plan, most_points, words_of}
use Rattle.plan.specs.Stored.{Stored}
use Rattle.plan.specs.Links.{links_to}
use Rattle.plan.specs.Reader.{plan, refused, read_of}

-- ---- reading
-- what reading the words gives: arrays that hold the plan which they are, or refusal 13 and its index
abbrev pub Reads : List ℕ → Result PlanArrays NotAPlan → Type 0
Reads ws (Ok r) = (p : Plan) × (read_of ws ≡ plan p) × Stored r p
Reads ws (Err e) = read_of ws ≡ refused e.at

-- ---- writing
-- two points are in contact unless they are apart, by their evaluations
abbrev pub in_contact : List ℕ → (ℕ → ℕ → Bool) → ℕ → ℕ → Bool
in_contact points apart i j = not (apart (get_or points i 0) (get_or points j 0))

-- the plan of a set of points, which ascend, by which of them are apart
unfoldable pub points_plan : ℕ → (ℕ → Bool) → (ℕ → ℕ → Bool) → Plan
points_plan names given apart =
    let points = keep given (below room) in
    record { names = names; points = points; contacts = links_to (length points) (length points) (in_contact points apart) }

-- the plan's words fit into the buffer
abbrev pub fits : Plan → List ℕ → Bool
fits p buf = leb (length (words_of p)) (length buf)

-- what writing the plan gives: the answer, and the buffer after it
pub record Writes (p : Plan) (buf : List ℕ) (result : Result ℕ ShortBuffer) (exit : List ℕ) : Type 0 where
  pub answer : result ≡ cond (fits p buf) (Ok (length (words_of p))) (Err (record { needed = length (words_of p) }))
  pub words : exit ≡ cond (fits p buf) (over (words_of p) buf) buf

-- ---- judging
-- how many points there are
abbrev pub count_of : PlanPoints → ℕ
count_of r = min r.count most_points

-- the evaluation of the point at a position
abbrev pub point_at : PlanPoints → ℕ → ℕ
point_at r a = get_or r.points a 0

-- some point of x is in contact with a point of y, by the rows; x and y are sets of evaluations
unfoldable pub touches_of : PlanPoints → (ℕ → ℕ → Bool) → (ℕ → Bool) → (ℕ → Bool) → Bool
touches_of r rows x y =
    any (λ a. x (point_at r a) && any (λ b. y (point_at r b) && rows a b) (below (count_of r))) (below (count_of r))

-- no point is in t
unfoldable pub vacant_of : PlanPoints → (ℕ → Bool) → Bool
vacant_of r t = not (any (λ a. t (point_at r a)) (below (count_of r)))
