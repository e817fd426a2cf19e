-- What the code finds of an atom on points and rows is its value on the floor of the plan that they hold: the points are the plan's, each
-- evaluation is below 2 ^ names, and inside the square the rows are the floor's contacts. Assumes nothing.
use mathlib.Core.Path.{◌≡◌, ap, ap₂, ◌∙◌}
use mathlib.Core.Bool.{Bool, not, ◌&&◌}
use mathlib.Core.List.{List, [], ◌∷◌}
use Prim.Native.Nat.{ℕ, zero, suc, ◌^◌, ◌≤◌, ◌<◌}
use native.Mathlib.Omega.{arith}
use lib.ListN.{length, get_or}
use lib.Pow.{pow_mono}
use borrow.Author.Tests.{lt-ltb}
use Rattle.formula.specs.Formula.{Term}
use Rattle.lists.specs.Search.{any, below}
use Rattle.lists.proofs.Search.{any_same, below_elim}
use Rattle.lists.proofs.Padded.{pad_at}
use Rattle.contact.specs.Meaning.{within, is_empty, touches}
use Rattle.contact.specs.Plan.{Means}
use Rattle.plan.specs.declared.PlanPoints.{PlanPoints}
use Rattle.plan.specs.Words.{Plan, Ascends, IsPlan, most_points}
use Rattle.plan.specs.Floor.{touching, lies_in, plan_floor}
use Rattle.plan.specs.Arrays.{count_of, point_at, touches_of, vacant_of}
use Rattle.plan.specs.Stored.{square, Holds}
use Rattle.plan.proofs.Complete.{ascends_room}

pub few_points : (p : Plan) → IsPlan p → length p.points ≤ most_points
few_points p h = omega (arith, ascends_room 0 (2 ^ p.names) p.points (omega arith) h.ascend, pow_mono h.few)

pub ascends_at : (low high : ℕ) (es : List ℕ) (a : ℕ) → Ascends low high es → a < length es → get_or es a 0 < high
ascends_at low high [] a h l = absurd (omega arith)
ascends_at low high (e ∷ es) zero h l = h.1
ascends_at low high (e ∷ es) (suc a) h l = ascends_at (suc e) high es a h.2 (omega arith)

module _ (p : Plan) (h : IsPlan p) (r : PlanPoints) (rows : ℕ → ℕ → Bool) (s : Holds r rows p) where
  pub count_is : count_of r ≡ length p.points
  count_is = omega (arith, s.count, few_points p h)

  point_is : (a : ℕ) → a < length p.points → point_at r a ≡ get_or p.points a 0
  point_is a l = ap (λ (pts : List ℕ). get_or pts a 0) s.points ∙ pad_at most_points p.points a l

  pub row_is : (a b : ℕ) → a < length p.points → b < length p.points → rows a b ≡ touching p a b
  unfolding square
  row_is a b l m =
      ap (λ (t : ℕ → ℕ → Bool). t a b) s.rows
      ∙ ap₂ (λ (u v : Bool). (u && v) && touching p a b) (lt-ltb a (length p.points) l) (lt-ltb b (length p.points) m)

  -- a position in the set is a point in the term
  lies_is : (x : ℕ → Bool) (t : Term ℕ) → Means p.names x t → (a : ℕ) → a < length p.points
      → x (point_at r a) ≡ within (plan_floor p h) t a
  unfolding plan_floor lies_in
  lies_is x t f a l = ap x (point_is a l) ∙ f (get_or p.points a 0) (ascends_at 0 (2 ^ p.names) p.points a h.ascend l)

  pub touches_meant : (x y : ℕ → Bool) (s t : Term ℕ) → Means p.names x s → Means p.names y t
      → touches_of r rows x y ≡ touches (plan_floor p h) s t
  unfolding touches_of plan_floor
  touches_meant x y s t f g =
      ap (λ (n : ℕ). any (λ a. x (point_at r a) && any (λ b. y (point_at r b) && rows a b) (below n)) (below n)) count_is
      ∙ any_same _ _ (below (length p.points))
      (λ a i. let l = below_elim (length p.points) a i in
      ap₂ ◌&&◌ (lies_is x s f a l)
      (any_same _ _ (below (length p.points))
      (λ b j. let m = below_elim (length p.points) b j in ap₂ ◌&&◌ (lies_is y t g b m) (row_is a b l m))))

  pub vacant_meant : (x : ℕ → Bool) (t : Term ℕ) → Means p.names x t → vacant_of r x ≡ is_empty (plan_floor p h) t
  unfolding vacant_of plan_floor
  vacant_meant x t f =
      ap (λ (n : ℕ). not (any (λ a. x (point_at r a)) (below n))) count_is
      ∙ ap not (any_same _ _ (below (length p.points)) (λ a i. lies_is x t f a (below_elim (length p.points) a i)))
