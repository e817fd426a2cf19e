-- The check of a row is the check by pairs, for every list of marks, so for every partial row. A pair is left exactly if both
-- evaluations are allowed and the two are not separated. Assumes nothing.
use mathlib.Core.Bool.{Bool, true, false, not, ◌&&◌, ◌||◌, and-eq-true_iff}
use mathlib.Core.Path.{◌≡◌, refl, ap}
use mathlib.Core.Logic.{◌⊎◌, inl, inr, ⊎_elim}
use mathlib.Core.List.{List}
use mathlib.Mathlib.Data.Bool.Basic.{and_intro, eq-false_of_not-eq-true, or_inl, or_inr, partial_order_laws}
use Prim.Native.Nat.{ℕ, ◌^◌}
use borrow.Author.Tests.{not-true}
use Rattle.formula.specs.Formula.{Term}
use Rattle.lists.specs.Search.{any, all}
use Rattle.lists.proofs.Search.{any_intro, any_elim, none_elim, none_intro, all_elim, all_intro, below_intro}
use Rattle.lists.proofs.Truth.{clash, or_cases}
use Rattle.contact.specs.Plan.{at, evaluations, Mark, touching, apart, vacant, inhabited, parts, separated, empties, may, allowed, fills, partners, leads}
use Rattle.contact.specs.Check.{witnessed, check}
use Rattle.contact.specs.Pairs.{serves, restricts, lives, some_pair, served, pair_check}
use Rattle.contact.proofs.Somewhere.{may_below}
use Rattle.contact.proofs.Realise.{separated_symmetric, allowed_elim, allowed_intro, allowed_below, fills_elim, fills_intro, partners_elim, partners_intro, leads_elim, leads_intro, check_elim, check_intro}

-- ---- pairs

pub pair_intro : (names : ℕ) (p : ℕ → ℕ → Bool) (e f : ℕ) → may names e ≡ true → may names f ≡ true → p e f ≡ true → some_pair names p ≡ true
pair_intro names p e f a b h =
    any_intro (λ e. may names e && any (λ f. may names f && p e f) (evaluations names)) (below_intro (2 ^ names) e (may_below names e a))
    (and_intro a (any_intro (λ f. may names f && p e f) (below_intro (2 ^ names) f (may_below names f b)) (and_intro b h)))

pub pair_elim : (names : ℕ) (p : ℕ → ℕ → Bool) → some_pair names p ≡ true
    → (e : ℕ) × (f : ℕ) × (may names e ≡ true) × (may names f ≡ true) × (p e f ≡ true)
pair_elim names p h =
    let r = any_elim (λ e. may names e && any (λ f. may names f && p e f) (evaluations names)) (evaluations names) h in
    let a = (and-eq-true_iff (may names r.0) (any (λ f. may names f && p r.0 f) (evaluations names))).0 r.2 in
    let s = any_elim (λ f. may names f && p r.0 f) (evaluations names) a.1 in
    let b = (and-eq-true_iff (may names s.0) (p r.0 s.0)).0 s.2 in
    (r.0, s.0, a.0, b.0, b.1)

-- ---- what takes a pair away

-- a contact, from the four values: x and y at e, x and y at f
contact_own : (a b c d : Bool) → (a && b) ≡ true → (((a && d) || (c && b)) || ((a && b) || (c && d))) ≡ true
contact_own true true c d h = or_true ((true && d) || (c && true))
  where
    or_true : (z : Bool) → (z || true) ≡ true
    or_true true = refl
    or_true false = refl
contact_own true false c d h = absurd (clash h refl)
contact_own false b c d h = absurd (clash h refl)

contact_other : (a b c d : Bool) → (c && d) ≡ true → (((a && d) || (c && b)) || ((a && b) || (c && d))) ≡ true
contact_other a b c d h = or_inr ((a && d) || (c && b)) ((a && b) || (c && d)) (or_inr (a && b) (c && d) h)

-- one value of the two that are the same
twice : (z : Bool) → (z || z) ≡ true → z ≡ true
twice true h = refl
twice false h = h

module _ (ms : List Mark) (e f : ℕ) where
  -- what a mark does to the pair that is not left
  taken : (m : Mark) → (restricts m && serves e f m) ≡ true
      → ((empties e m ≡ true) ⊎ (empties f m ≡ true)) ⊎ ((parts e f m ≡ true) ⊎ ((parts e e m ≡ true) ⊎ (parts f f m ≡ true)))
  taken (touching x y) h = absurd (clash h refl)
  taken (apart x y) h =
      let own : (d : ℕ) → (at x d && at y d) ≡ true → parts d d (apart x y) ≡ true = λ d j. or_inl (at x d && at y d) (at x d && at y d) j in
      ⊎_elim (λ k. inr (inl k))
      (λ k. ⊎_elim (λ j. inr (inr (inl (own e j)))) (λ j. inr (inr (inr (own f j)))) (or_cases (at x e && at y e) (at x f && at y f) k))
      (or_cases ((at x e && at y f) || (at x f && at y e)) ((at x e && at y e) || (at x f && at y f)) h)
  taken (vacant t) h = inl (or_cases (at t e) (at t f) h)
  taken (inhabited t) h = absurd (clash h refl)

  taken_empty : (m : Mark) → empties e m ≡ true → (restricts m && serves e f m) ≡ true
  taken_empty (touching x y) h = absurd (clash h refl)
  taken_empty (apart x y) h = absurd (clash h refl)
  taken_empty (vacant t) h = or_inl (at t e) (at t f) h
  taken_empty (inhabited t) h = absurd (clash h refl)

  taken_empty_2 : (m : Mark) → empties f m ≡ true → (restricts m && serves e f m) ≡ true
  taken_empty_2 (touching x y) h = absurd (clash h refl)
  taken_empty_2 (apart x y) h = absurd (clash h refl)
  taken_empty_2 (vacant t) h = or_inr (at t e) (at t f) h
  taken_empty_2 (inhabited t) h = absurd (clash h refl)

  taken_parts : (m : Mark) → parts e f m ≡ true → (restricts m && serves e f m) ≡ true
  taken_parts (touching x y) h = absurd (clash h refl)
  taken_parts (apart x y) h = or_inl (parts e f (apart x y)) ((at x e && at y e) || (at x f && at y f)) h
  taken_parts (vacant t) h = absurd (clash h refl)
  taken_parts (inhabited t) h = absurd (clash h refl)

  taken_own : (m : Mark) → parts e e m ≡ true → (restricts m && serves e f m) ≡ true
  taken_own (touching x y) h = absurd (clash h refl)
  taken_own (apart x y) h = contact_own (at x e) (at y e) (at x f) (at y f) (twice _ h)
  taken_own (vacant t) h = absurd (clash h refl)
  taken_own (inhabited t) h = absurd (clash h refl)

  taken_own_2 : (m : Mark) → parts f f m ≡ true → (restricts m && serves e f m) ≡ true
  taken_own_2 (touching x y) h = absurd (clash h refl)
  taken_own_2 (apart x y) h = contact_other (at x e) (at y e) (at x f) (at y f) (twice _ h)
  taken_own_2 (vacant t) h = absurd (clash h refl)
  taken_own_2 (inhabited t) h = absurd (clash h refl)

  -- none of them, where the pair is left
  none_taken : lives ms e f ≡ true → (q : Mark → Bool) → ((m : Mark) → q m ≡ true → (restricts m && serves e f m) ≡ true) → any q ms ≡ false
  unfolding lives
  none_taken h q g =
      none_intro q ms (λ m i k. clash (any_intro (λ m. restricts m && serves e f m) i (g m k)) (not-true _ h))

module _ (names : ℕ) (ms : List Mark) where
  -- a pair is left exactly if both are allowed and they are not separated
  pub lives_elim : (e f : ℕ) → may names e ≡ true → may names f ≡ true → lives ms e f ≡ true
      → (allowed names ms e ≡ true) × (allowed names ms f ≡ true) × (separated ms e f ≡ false)
  unfolding separated
  lives_elim e f a b h = (
    allowed_intro names ms e (a, none_taken ms e f h (empties e) (taken_empty ms e f), none_taken ms e f h (parts e e) (taken_own ms e f)),
    allowed_intro names ms f (b, none_taken ms e f h (empties f) (taken_empty_2 ms e f), none_taken ms e f h (parts f f) (taken_own_2 ms e f)),
    none_taken ms e f h (parts e f) (taken_parts ms e f),
  )

  pub lives_intro : (e f : ℕ) → allowed names ms e ≡ true → allowed names ms f ≡ true → separated ms e f ≡ false → lives ms e f ≡ true
  unfolding lives separated
  lives_intro e f p q s =
      let a = allowed_elim names ms e p in
      let b = allowed_elim names ms f q in
      ap not (none_intro (λ m. restricts m && serves e f m) ms (λ m i k.
      ⊎_elim
      (λ j. ⊎_elim (λ z. clash z (none_elim (empties e) a.1 i)) (λ z. clash z (none_elim (empties f) b.1 i)) j)
      (λ j. ⊎_elim (λ z. clash z (none_elim (parts e f) s i))
      (λ z. ⊎_elim (λ y. clash y (none_elim (parts e e) a.2 i)) (λ y. clash y (none_elim (parts f f) b.2 i)) z) j)
      (taken ms e f m k)))

  -- an allowed evaluation is left with itself
  alone : (e : ℕ) → allowed names ms e ≡ true → lives ms e e ≡ true
  alone e h = lives_intro e e h h (allowed_elim names ms e h).2

  allowed_may : (e : ℕ) → allowed names ms e ≡ true → may names e ≡ true
  allowed_may e h = (allowed_elim names ms e h).0

  -- ---- the marks

  served_elim : (m : Mark) → served names ms m ≡ true
      → (e : ℕ) × (f : ℕ) × (may names e ≡ true) × (may names f ≡ true) × (lives ms e f ≡ true) × (serves e f m ≡ true)
  unfolding served
  served_elim m h =
      let r = pair_elim names (λ e f. lives ms e f && serves e f m) h in
      let s = (and-eq-true_iff (lives ms r.0 r.1) (serves r.0 r.1 m)).0 r.4 in
      (r.0, r.1, r.2, r.3, s.0, s.1)

  served_intro : (m : Mark) (e f : ℕ) → allowed names ms e ≡ true → allowed names ms f ≡ true → separated ms e f ≡ false → serves e f m ≡ true
      → served names ms m ≡ true
  unfolding served
  served_intro m e f p q s h =
      pair_intro names (λ e f. lives ms e f && serves e f m) e f (allowed_may e p) (allowed_may f q) (and_intro (lives_intro e f p q s) h)

  led : (x y : Term ℕ) (p q : ℕ) → allowed names ms p ≡ true → allowed names ms q ≡ true → separated ms p q ≡ false → at x p ≡ true → at y q ≡ true
      → any (leads names ms x y) (evaluations names) ≡ true
  led x y p q a b s h k =
      any_intro (leads names ms x y) (below_intro (2 ^ names) p (allowed_below names ms p a))
      (leads_intro names ms x y p (fills_intro names ms x p a h)
      (any_intro (partners names ms y p) (below_intro (2 ^ names) q (allowed_below names ms q b))
      (partners_intro names ms y p q (fills_intro names ms y q b k) s)))

  -- a mark has its witness exactly if it restricts or is served
  witnessed_served : (m : Mark) → witnessed names ms m ≡ true → (restricts m || served names ms m) ≡ true
  witnessed_served (touching x y) h =
      let r = any_elim (leads names ms x y) (evaluations names) h in
      let l = leads_elim names ms x y r.0 r.2 in
      let s = any_elim (partners names ms y r.0) (evaluations names) l.1 in
      let t = partners_elim names ms y r.0 s.0 s.2 in
      let a = fills_elim names ms x r.0 l.0 in
      let b = fills_elim names ms y s.0 t.0 in
      served_intro (touching x y) r.0 s.0 a.0 b.0 t.1
      (or_inl _ ((at x r.0 && at y r.0) || (at x s.0 && at y s.0)) (or_inl (at x r.0 && at y s.0) (at x s.0 && at y r.0) (and_intro a.1 b.1)))
  witnessed_served (apart x y) h = refl
  witnessed_served (vacant t) h = refl
  witnessed_served (inhabited t) h =
      let r = any_elim (fills names ms t) (evaluations names) h in
      let a = fills_elim names ms t r.0 r.2 in
      served_intro (inhabited t) r.0 r.0 a.0 a.0 (allowed_elim names ms r.0 a.0).2 (or_inl (at t r.0) (at t r.0) a.1)

  served_witnessed : (m : Mark) → (restricts m || served names ms m) ≡ true → witnessed names ms m ≡ true
  served_witnessed (touching x y) h =
      let r = served_elim (touching x y) h in
      let e = r.0 in
      let f = r.1 in
      let l = lives_elim e f r.2 r.3 r.4 in
      let own : (d : ℕ) → allowed names ms d ≡ true → (at x d && at y d) ≡ true → any (leads names ms x y) (evaluations names) ≡ true =
      λ d a k. let u = (and-eq-true_iff (at x d) (at y d)).0 k in led x y d d a a (allowed_elim names ms d a).2 u.0 u.1 in
      ⊎_elim
      (λ k. ⊎_elim
      (λ j. let u = (and-eq-true_iff (at x e) (at y f)).0 j in led x y e f l.0 l.1 l.2 u.0 u.1)
      (λ j. let u = (and-eq-true_iff (at x f) (at y e)).0 j in
      led x y f e l.1 l.0 (eq-false_of_not-eq-true (λ z. clash (separated_symmetric ms f e z) l.2)) u.0 u.1)
      (or_cases (at x e && at y f) (at x f && at y e) k))
      (λ k. ⊎_elim (own e l.0) (own f l.1) (or_cases (at x e && at y e) (at x f && at y f) k))
      (or_cases ((at x e && at y f) || (at x f && at y e)) ((at x e && at y e) || (at x f && at y f)) r.5)
  served_witnessed (apart x y) h = refl
  served_witnessed (vacant t) h = refl
  served_witnessed (inhabited t) h =
      let r = served_elim (inhabited t) h in
      let l = lives_elim r.0 r.1 r.2 r.3 r.4 in
      ⊎_elim
      (λ k. any_intro (fills names ms t) (below_intro (2 ^ names) r.0 (may_below names r.0 r.2)) (fills_intro names ms t r.0 l.0 k))
      (λ k. any_intro (fills names ms t) (below_intro (2 ^ names) r.1 (may_below names r.1 r.3)) (fills_intro names ms t r.1 l.1 k))
      (or_cases (at t r.0) (at t r.1) r.5)

  -- ---- the check

  pub check_pairs : check names ms ≡ pair_check names ms
  unfolding pair_check
  check_pairs =
      partial_order_laws.le_antisymm (check names ms) (some_pair names (lives ms) && all (λ m. restricts m || served names ms m) ms)
      (λ h. let c = check_elim names ms h in
      let r = any_elim (allowed names ms) (evaluations names) c.0 in
      and_intro
      (pair_intro names (lives ms) r.0 r.0 (allowed_may r.0 r.2) (allowed_may r.0 r.2) (alone r.0 r.2))
      (all_intro (λ m. restricts m || served names ms m) ms (λ m i. witnessed_served m (all_elim (witnessed names ms) i c.1))))
      (λ h. let c = (and-eq-true_iff (some_pair names (lives ms)) (all (λ m. restricts m || served names ms m) ms)).0 h in
      let r = pair_elim names (lives ms) c.0 in
      check_intro names ms
      (any_intro (allowed names ms) (below_intro (2 ^ names) r.0 (may_below names r.0 r.2)) (lives_elim r.0 r.1 r.2 r.3 r.4).0)
      (all_intro (witnessed names ms) ms (λ m i. served_witnessed m (all_elim (λ m. restricts m || served names ms m) i c.1))))
