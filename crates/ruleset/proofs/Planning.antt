-- The points that are found for a row, and what its square separates, are the plan that is given: the points are the given ones, all below
-- 2 ^ names, and there the square says what is separated. Assumes nothing.
use mathlib.Core.Bool.{not}
use mathlib.Core.Path.{◌≡◌, ap, ◌∙◌}
use mathlib.Core.List.{List}
use Prim.Native.Nat.{ℕ}
use lib.ListN.{length}
use Rattle.evalset.specs.declared.EvalSet.{EvalSet}
use Rattle.evalset.specs.Sets.{mem}
use Rattle.squares.specs.Square.{square_at}
use Rattle.contact.specs.Question.{Question}
use Rattle.contact.specs.Plan.{Mark, separated}
use Rattle.contact.specs.Check.{points_for}
use Rattle.search.specs.Planned.{PlanOf}
use Rattle.search.proofs.Listing.{point_low}
use Rattle.plan.specs.Words.{Plan}
use Rattle.plan.specs.Links.{links_to}
use Rattle.plan.specs.Arrays.{in_contact, points_plan}
use Rattle.plan.specs.Given.{given_plan}
use Rattle.plan.proofs.Contacts.{links_same}

pub plan_is_given : (q : Question) (names : ℕ) (ms : List Mark) (r : EvalSet) (ws : List ℕ) → PlanOf q names ms r ws
    → points_plan names (mem r) (square_at ws) ≡ given_plan names ms (points_for q names ms)
unfolding points_plan given_plan
plan_is_given q names ms r ws p =
    ap (λ (xs : List ℕ). plan_with xs (links_to (length xs) (length xs) (in_contact xs (square_at ws)))) p.listed
    ∙ ap (plan_with points)
    (links_same (length points) (in_contact points (square_at ws)) (in_contact points (separated ms))
    (λ i j l m. ap not (p.apart _ _ (point_low q names ms i l) (point_low q names ms j m))))
  where
    points : List ℕ
    points = points_for q names ms

    plan_with : List ℕ → List ℕ → Plan
    plan_with xs ks = record { names = names; points = xs; contacts = ks }
