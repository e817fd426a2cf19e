-- A plan taken as one of more names is a plan, with the same floor: its evaluations, being below 2^names, have no bit of a name that it
-- lacks, so that name is empty. Assumes nothing.
use mathlib.Core.Path.{◌≡◌, refl}
use mathlib.Core.Bool.{false}
use mathlib.Core.List.{List, [], ◌∷◌}
use Prim.Native.Nat.{ℕ, suc, ◌^◌, ◌≤◌, ◌<◌}
use native.Mathlib.Omega.{arith}
use lib.ListN.{length, get_or}
use lib.Pow.{pow_mono}
use Rattle.formula.specs.Formula.{Formula, Name}
use Rattle.evalset.specs.Most.{most}
use Rattle.evalset.proofs.Bits.{bit_above}
use Rattle.contact.proofs.SameFloor.{SameFloor}
use Rattle.plan.specs.declared.PlanArrays.{PlanArrays}
use Rattle.plan.specs.Words.{Plan, Ascends, IsPlan}
use Rattle.plan.specs.Floor.{touching, lies_in, plan_floor, named_floor}
use Rattle.plan.specs.Stored.{Stored, square}
use Rattle.plan.specs.Wider.{widened, widened_arrays}
use Rattle.plan.proofs.Judged.{ascends_at}

ascends_wider : (low high wide : ℕ) (es : List ℕ) → high ≤ wide → Ascends low high es → Ascends low wide es
ascends_wider low high wide [] l a = tt
ascends_wider low high wide (e ∷ es) l a = (a.0, omega (arith, a.1), ascends_wider (suc e) high wide es l a.2)

module _ (n : ℕ) (p : Plan) where
  pub widened_plan : p.names ≤ n → n ≤ most → IsPlan p → IsPlan (widened n p)
  widened_plan l few h =
      record { few = few; some = h.some; ascend = ascends_wider 0 (2 ^ p.names) (2 ^ n) p.points (pow_mono l) h.ascend; rise = h.rise }

  pub widened_stored : (r : PlanArrays) → Stored r p → Stored (widened_arrays n r) (widened n p)
  unfolding square touching
  widened_stored r s = record { names = refl; count = s.count; points = s.points; rows = s.rows }

-- its floor over the names of rules is the plan's, however both were shown to be plans
pub widened_floor : (rules : List (Formula Name)) (n : ℕ) (p : Plan) (h : IsPlan p) (k : IsPlan (widened n p))
    → SameFloor (named_floor rules (widened n p) k) (named_floor rules p h)
unfolding plan_floor touching lies_in
widened_floor rules n p h k = record { points = refl; touch = λ a b l m. refl; lies = λ x a l. refl }

-- and so is that of a plan which was shown to be one in two ways
pub floor_again : (rules : List (Formula Name)) (p : Plan) (h k : IsPlan p) → SameFloor (named_floor rules p h) (named_floor rules p k)
unfolding plan_floor touching lies_in
floor_again rules p h k = record { points = refl; touch = λ a b l m. refl; lies = λ x a l. refl }

-- a name that the plan lacks has no point
pub missing_empty : (p : Plan) → IsPlan p → (i : ℕ) → p.names ≤ i → (a : ℕ) → a < length p.points → lies_in p i a ≡ false
unfolding lies_in
missing_empty p h i l a m = bit_above p.names (get_or p.points a 0) i (ascends_at 0 (2 ^ p.names) p.points a h.ascend m) l
