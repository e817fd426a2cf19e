-- A search among the positions whose evaluations are in a set is one among the positions below n. Assumes nothing.
use mathlib.Core.Path.{◌≡◌, refl, ap, ap₂, ◌∙◌}
use mathlib.Core.Bool.{Bool, true, false, not, ◌&&◌, ◌||◌, and_comm, and-false}
use mathlib.Core.List.{List}
use Prim.Native.Nat.{ℕ, ◌+◌, ◌≤◌, ◌<◌}
use lib.ListN.{get_or}
use Rattle.lists.proofs.Below.{any_at, any_more, any_cut}
use Rattle.lists.specs.Search.{any, below}
use Rattle.evalset.specs.Sets.{room, meet_of}
use Rattle.evalset.specs.Arrays.{positions_of}
use Rattle.evalset.proofs.Arrays.{outside, inside}
use Rattle.lists.proofs.Search.{any_same, below_elim}
use Rattle.plan.specs.declared.PlanPoints.{PlanPoints}
use Rattle.plan.specs.Arrays.{count_of, point_at, touches_of, vacant_of}
use Rattle.plan.specs.Private.{reaches_of, reached_of}

-- ---- the rows so far
module _ (pts : List ℕ) (rows : ℕ → ℕ → Bool) (x ys : ℕ → Bool) where
  pub reached_none : reached_of 0 pts rows x ys ≡ false
  unfolding reached_of
  reached_none = refl

  pub reached_more : (a : ℕ) → reached_of a pts rows x ys ≡ false → reaches_of (rows a) (get_or pts a 0) x ys ≡ false
      → reached_of (a + 1) pts rows x ys ≡ false
  unfolding reached_of
  reached_more a p q = any_more (λ k. reaches_of (rows k) (get_or pts k 0) x ys) a ∙ ap₂ ◌||◌ p q

  pub reached_here : (n a : ℕ) → a < n → reaches_of (rows a) (get_or pts a 0) x ys ≡ true → reached_of n pts rows x ys ≡ true
  unfolding reached_of
  reached_here n a l q = any_at (λ k. reaches_of (rows k) (get_or pts k 0) x ys) n a l q

-- ---- a search among the positions in a set
module _ (n : ℕ) (pts : List ℕ) (s : ℕ → Bool) (l : n ≤ room) where
  any_positions : any (positions_of n pts s) (below room) ≡ any (λ j. s (get_or pts j 0)) (below n)
  any_positions = any_cut (positions_of n pts s) n room l (λ d a b. outside n pts s d a)
      ∙ any_same (positions_of n pts s) (λ j. s (get_or pts j 0)) (below n) (λ j i. inside n pts s j (below_elim n j i))

  any_met : (row : ℕ → Bool) → any (meet_of row (positions_of n pts s)) (below room) ≡ any (λ j. s (get_or pts j 0) && row j) (below n)
  any_met row =
      any_cut (meet_of row (positions_of n pts s)) n room l (λ d a b. ap (λ (v : Bool). row d && v) (outside n pts s d a) ∙ and-false (row d))
      ∙ any_same (meet_of row (positions_of n pts s)) (λ j. s (get_or pts j 0) && row j) (below n)
      (λ j i. ap (λ (v : Bool). row j && v) (inside n pts s j (below_elim n j i)) ∙ and_comm (row j) (s (get_or pts j 0)))

-- ---- the two atoms
module _ (r : PlanPoints) (n : ℕ) (m : n ≡ count_of r) (l : n ≤ room) where
  pub touches_is : (rows : ℕ → ℕ → Bool) (x y : ℕ → Bool) → reached_of n r.points rows x (positions_of n r.points y) ≡ touches_of r rows x y
  unfolding reached_of reaches_of touches_of
  touches_is rows x y =
      any_same _ (λ a. x (point_at r a) && any (λ b. y (point_at r b) && rows a b) (below n)) (below n)
      (λ a i. ap (λ (v : Bool). x (point_at r a) && v) (any_met n r.points y l (rows a)))
      ∙ ap (λ (k : ℕ). any (λ a. x (point_at r a) && any (λ b. y (point_at r b) && rows a b) (below k)) (below k)) m

  pub vacant_is : (t : ℕ → Bool) → not (any (positions_of n r.points t) (below room)) ≡ vacant_of r t
  unfolding vacant_of
  vacant_is t = ap not (any_positions n r.points t l) ∙ ap (λ (k : ℕ). not (any (λ a. t (point_at r a)) (below k))) m
