-- A plan has no point at evaluation 0, or no name, exactly if its floor counts for rules of as many names: a point lies in a name exactly if
-- its evaluation is not 0. The points ascend, so the first one decides. Assumes nothing.
use mathlib.Core.Path.{◌≡◌, refl, sym, ap, subst}
use mathlib.Core.Bool.{true, false, not, and-eq-true_iff}
use mathlib.Core.Logic.{◌↔◌, ⊎_elim}
use mathlib.Core.List.{List, [], ◌∷◌}
use mathlib.Mathlib.Data.Bool.Basic.{and_intro, eq-false_of_not-eq-true, partial_order_laws}
use Prim.Native.Nat.{ℕ, suc, ◌^◌, ◌≤◌, ◌<◌}
use native.Mathlib.Omega.{arith}
use lib.Dec.{eqb}
use lib.ListN.{length, get_or}
use borrow.Author.Tests.{not-true, eqb-true, eqb-false, eq-eqb, ne_eqb}
use Rattle.formula.specs.Formula.{Formula, Name}
use Rattle.lists.specs.Search.{In, elem}
use Rattle.lists.proofs.Search.{none_in, uncons, at_head, place, placed, elem_intro, elem_elim}
use Rattle.lists.proofs.Truth.{clash}
use Rattle.evalset.specs.Bit.{bit}
use Rattle.contact.specs.Question.{plain, Counts}
use Rattle.contact.specs.Numbering.{names_of}
use Rattle.contact.specs.Plan.{may}
use Rattle.contact.proofs.Somewhere.{may_some, may_intro, somewhere_points, points_somewhere}
use Rattle.contact.proofs.Naming.{numbers_count, numbers_somewhere}
use Rattle.plan.specs.Words.{Plan, Ascends, IsPlan}
use Rattle.plan.specs.Floor.{lies_in, plan_floor, named_floor}
use Rattle.plan.specs.Judging.{uncovered}
use Rattle.plan.proofs.Judged.{ascends_at}

-- it has a name, and a point at evaluation 0
pub uncovered_exactly : (p : Plan) → (uncovered p ≡ true) ↔ ((0 < p.names) × In 0 p.points)
unfolding uncovered
uncovered_exactly p = (
  λ h. let r = (and-eq-true_iff (not (eqb p.names 0)) (elem 0 p.points)).0 h in
      let ne : p.names ≡ 0 → ⊥ = eqb-false p.names 0 (not-true _ r.0) in
      (omega (arith, ne), elem_elim 0 p.points r.1),
  λ h. let l : 0 < p.names = h.0 in and_intro (ap not (ne_eqb p.names 0 (omega arith))) (elem_intro 0 h.1),
)

module _ (rules : List (Formula Name)) (p : Plan) (h : IsPlan p) (named : p.names ≡ length (names_of rules)) where
  abbrev point : ℕ → ℕ
  point a = get_or p.points a 0

  low : (a : ℕ) → a < (plan_floor p h).points → point a < 2 ^ length (names_of rules)
  unfolding plan_floor
  low a l = subst (λ (n : ℕ). point a < 2 ^ n) named (ascends_at 0 (2 ^ p.names) p.points a h.ascend l)

  lies : (i a : ℕ) → a < (plan_floor p h).points → (plan_floor p h).lies i a ≡ bit (point a) i
  unfolding plan_floor lies_in
  lies i a l = refl

  pub covered_counts : uncovered p ≡ false → Counts plain (names_of rules) (named_floor rules p h)
  unfolding plan_floor
  covered_counts e =
      numbers_count rules plain (plan_floor p h)
      (record {
        somewhere =
            somewhere_points (length (names_of rules)) (plan_floor p h) point
            (λ a l. may_intro (length (names_of rules)) (point a) (low a l)
            (λ some. let ne : point a ≡ 0 → ⊥ =
            λ z. clash ((uncovered_exactly p).1 (omega (arith, named, some), subst (λ (x : ℕ). In x p.points) z (placed 0 p.points a l))) e in
            omega (arith, ne)))
            lies;
        shaped = tt;
      })

  pub counts_covered : Counts plain (names_of rules) (named_floor rules p h) → uncovered p ≡ false
  unfolding plan_floor
  counts_covered c =
      eq-false_of_not-eq-true (λ t. let r = (uncovered_exactly p).0 t in
      let k = place 0 r.1 in
      let m : may (length (names_of rules)) (point k.0) ≡ true =
      points_somewhere (length (names_of rules)) (plan_floor p h) point low lies (numbers_somewhere rules (plan_floor p h) c.somewhere) k.0 k.1 in
      let l : 0 < point k.0 = may_some (length (names_of rules)) (point k.0) (omega (arith, named, r.0)) m in
      omega (arith, k.2, l))

-- ---- by the first point

ascends_low : (low high : ℕ) (es : List ℕ) {x : ℕ} → Ascends low high es → In x es → low ≤ x
ascends_low low high [] a i = none_in i
ascends_low low high (e ∷ es) {x} a i =
    ⊎_elim (λ z. omega (arith, a.0, z)) (λ j. omega (arith, a.0, ascends_low (suc e) high es a.2 j)) (uncons i)

pub first_decides : (p : Plan) → IsPlan p → elem 0 p.points ≡ eqb (get_or p.points 0 0) 0
first_decides p h = go p.points h.some h.ascend
  where
    go : (es : List ℕ) → 0 < length es → Ascends 0 (2 ^ p.names) es → elem 0 es ≡ eqb (get_or es 0 0) 0
    go [] l a = absurd (omega arith)
    go (e ∷ es) l a =
        partial_order_laws.le_antisymm (elem 0 (e ∷ es)) (eqb e 0)
        (λ t. ⊎_elim (λ z. eq-eqb e 0 (sym z)) (λ j. absurd (omega (arith, ascends_low (suc e) (2 ^ p.names) es a.2 j)))
        (uncons (elem_elim 0 (e ∷ es) t)))
        (λ t. elem_intro 0 (at_head {xs = es} (sym (eqb-true e 0 t))))
