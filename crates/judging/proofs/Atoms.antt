-- The value of the chart's atom on points and rows is that of the rules' atom on the floor of the plan that they hold: the chart's sets are
-- the atom's terms, below 2 ^ names, and there plan's laws apply. A store of one value more keeps those before it. Assumes nothing.
use mathlib.Core.Bool.{Bool}
use mathlib.Core.Path.{◌≡◌, sym, ap, ◌∙◌, subst}
use mathlib.Core.List.{List}
use Prim.Native.Nat.{ℕ, ◌+◌, ◌<◌}
use native.Mathlib.Omega.{arith}
use lib.ListN.{length, get_or, set}
use lib.Seq.{get_or-set_same, get_or-set_other}
use borrow.Author.Count.{below_none, below_more}
use Rattle.formula.specs.Formula.{Atom}
use Rattle.evalset.specs.Bit.{bit}
use Rattle.evalset.specs.Sets.{mem_at}
use Rattle.contact.specs.Meaning.{part_term, atom_on}
use Rattle.search.specs.declared.Chart.{Chart}
use Rattle.search.specs.Compiled.{AtomIs, atom_at, contact_at, Compiled}
use Rattle.plan.specs.declared.PlanPoints.{PlanPoints}
use Rattle.plan.specs.Words.{Plan, IsPlan}
use Rattle.plan.specs.Stored.{Holds}
use Rattle.plan.specs.Floor.{plan_floor}
use Rattle.plan.proofs.Judged.{touches_meant, vacant_meant}
use Rattle.judging.specs.Values.{atom_of, value_of, Sure}

-- ---- on the floor

module _ (p : Plan) (h : IsPlan p) (r : PlanPoints) (rows : ℕ → ℕ → Bool) (s : Holds r rows p) where
  atom_is : (contact : Bool) (x y : ℕ → Bool) (a : Atom ℕ) → AtomIs p.names contact x y a → atom_of r rows contact x y ≡ atom_on (plan_floor p h) a
  atom_is contact x y (Atom.contact u t) m =
      ap (λ (b : Bool). atom_of r rows b x y) m.0 ∙ touches_meant p h r rows s x y u t m.1 m.2
  atom_is contact x y (Atom.part u t) m =
      ap (λ (b : Bool). atom_of r rows b x y) m.0 ∙ vacant_meant p h r rows s x (part_term u t) m.1
  atom_is contact x y (Atom.empty t) m =
      ap (λ (b : Bool). atom_of r rows b x y) m.0 ∙ vacant_meant p h r rows s x t m.1

pub value_is : (p : Plan) (h : IsPlan p) (r : PlanPoints) (rows : ℕ → ℕ → Bool) → Holds r rows p → (chart : Chart) (atoms : List (Atom ℕ)) → Compiled chart atoms
    → p.names ≡ chart.names → (i : ℕ) → i < length atoms → value_of r rows chart i ≡ atom_on (plan_floor p h) (atom_at atoms i)
unfolding value_of
value_is p h r rows s chart atoms c q i l =
    atom_is p h r rows s (contact_at chart i) (mem_at chart.xs i) (mem_at chart.ys i) (atom_at atoms i)
    (subst (λ (n : ℕ). AtomIs n (contact_at chart i) (mem_at chart.xs i) (mem_at chart.ys i) (atom_at atoms i)) (sym q) (c.atom_is i l))

-- ---- one value more

pub sure_none : (leaves : List ℕ) (w : ℕ → Bool) → Sure leaves 0 w
unfolding Sure
sure_none leaves w = below_none (λ i. bit (get_or leaves i 0) 0 ≡ w i)

pub sure_more : (leaves : List ℕ) (n : ℕ) (w : ℕ → Bool) (r : ℕ) → n < length leaves → Sure leaves n w → bit r 0 ≡ w n
    → Sure (set leaves n r) (n + 1) w
unfolding Sure
sure_more leaves n w r l h e =
    below_more (λ i. bit (get_or (set leaves n r) i 0) 0 ≡ w i) n
    (λ i k. ap (λ (x : ℕ). bit x 0) (get_or-set_other leaves n i r 0 (λ q. omega arith)) ∙ h i k) (ap (λ (x : ℕ). bit x 0) (get_or-set_same leaves n r 0 l) ∙ e)
