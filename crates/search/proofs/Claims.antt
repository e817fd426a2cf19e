-- The claims of this crate (Giving, Listing, Finding): the points and what is separated are those of the plan that is given, for each question, and the piece of a building is the
-- first that meets the row. A function's contract is what is assumed of its result here, under its name in specs/. Assumes nothing.
use mathlib.Core.Bool.{Bool, true, not}
use mathlib.Core.Path.{◌≡◌, sym, ap, subst, ◌∙◌}
use mathlib.Core.List.{List, map}
use Prim.Native.Nat.{ℕ, ◌^◌, ◌≤◌, ◌<◌}
use native.Mathlib.Omega.{arith}
use lib.ListN.{length, get_or}
use Rattle.lists.specs.Search.{keep, below}
use Rattle.formula.specs.Formula.{Atom}
use Rattle.evalset.specs.declared.EvalSet.{EvalSet}
use Rattle.evalset.specs.Sets.{room, mem}
use Rattle.squares.specs.Square.{square_at}
use Rattle.contact.specs.Row.{is}
use Rattle.contact.specs.Question.{Question, plain, building}
use Rattle.contact.specs.Plan.{Mark, separated}
use Rattle.contact.specs.Check.{passes}
use Rattle.contact.proofs.Claims as contact
use Rattle.contact.proofs.Floors.{marks_floor}
use Rattle.search.specs.declared.Chart.{Chart}
use Rattle.search.specs.Rows.{row_bits}
use Rattle.search.specs.Compiled.{limit, Compiled}
use Rattle.search.specs.Planned.{marks_in, PlanOf, PlanSays}
use Rattle.search.specs.Building.{BuildingSays}
use Rattle.search.proofs.Listing.{point_low}

module _ (chart : Chart) (atoms : List (Atom ℕ)) (compiled : Compiled chart atoms) where
  -- ---- a plan

  module _ (q : Question) (r : EvalSet) (ws : List ℕ) (row : ℕ) (says : PlanSays q chart row r ws) where
    abbrev ms : List Mark
    ms = marks_in chart atoms row

    abbrev points : List ℕ
    points = keep (mem r) (below room)

    -- the set and the square are those of the row's marks: the points, and what is separated
    pub planned_is : PlanOf q chart.names ms r ws
    unfolding PlanSays
    planned_is = says atoms compiled

    -- at most as many points as there are evaluations
    pub planned_room : length points ≤ 2 ^ chart.names
    planned_room = omega (arith, ap length planned_is.listed, contact.points_room q chart.names ms)

    -- each is an evaluation
    pub planned_low : (i : ℕ) → i < length points → get_or points i 0 < 2 ^ chart.names
    planned_low i l =
        subst (λ (xs : List ℕ). get_or xs i 0 < 2 ^ chart.names) (sym planned_is.listed)
        (point_low q chart.names ms i (omega (arith, l, ap length planned_is.listed)))

    -- of a row that passes the check, the pairs that are not separated are the contacts of the plan's floor
    pub planned_touch : (h : passes q chart.names ms ≡ true) → (i j : ℕ) → i < length points → j < length points
        → not (square_at ws (get_or points i 0) (get_or points j 0)) ≡ (marks_floor q chart.names ms h).touch i j
    planned_touch h i j l m =
        ap not (planned_is.apart _ _ (planned_low i l) (planned_low j m))
        ∙ ap (λ (xs : List ℕ). not (separated ms (get_or xs i 0) (get_or xs j 0))) planned_is.listed ∙ sym (contact.plan_touch q chart.names ms h i j)

  -- at most 32 points of the plain question for as many atoms as a chart may have
  pub planned_few : (r : EvalSet) (ws : List ℕ) (row : ℕ) → PlanSays plain chart row r ws → length atoms ≤ limit → length (keep (mem r) (below room)) ≤ 32
  planned_few r ws row says l =
      omega (arith, ap length (planned_is plain r ws row says).listed, contact.points_at_most chart.names atoms (map is (row_bits chart.atoms row)) l)

  -- ---- one building

  -- a piece is found exactly if the row's marks pass the check
  pub building_is : (r : Bool) (row : ℕ) → BuildingSays chart row r → r ≡ passes building chart.names (marks_in chart atoms row)
  unfolding BuildingSays
  building_is r row says = says atoms compiled
