-- Points and rows that hold a plan hold no other: lists that rise and have the same elements are equal, and the contacts that the plan's
-- square gives are its contacts. Assumes nothing.
use mathlib.Core.Path.{◌≡◌, refl, sym, ap, ap₂, ◌∙◌, subst}
use mathlib.Core.Bool.{Bool, true, false, ◌&&◌, ◌||◌, cond, or_comm, and-eq-true_iff}
use mathlib.Core.List.{List, [], ◌∷◌}
use mathlib.Core.Logic.{inr, ⊎_elim}
use mathlib.Mathlib.Data.Bool.Basic.{or_inl, or_inr, partial_order_laws}
use Prim.Native.Nat.{ℕ, suc, ◌+◌, ◌-◌, ◌*◌, ◌/◌, ◌%◌, ◌≤◌, ◌<◌}
use native.Mathlib.Omega.{arith}
use native.Mathlib.Nat.{le_antisymm}
use lib.Dec.{eqb, ltb}
use lib.ListN.{length, take, replicate}
use lib.Seq.{take_at}
use borrow.Author.Tests.{eqb-true, eq-eqb, ltb-true, lt-ltb}
use Rattle.lists.specs.Padded.{pad}
use Rattle.lists.specs.Search.{In, here, next, any, below}
use Rattle.plan.specs.declared.PlanPoints.{PlanPoints}
use Rattle.plan.specs.Words.{Plan, Rises, IsPlan, most_points}
use Rattle.plan.specs.Floor.{between, touching}
use Rattle.plan.specs.Arrays.{count_of}
use Rattle.plan.specs.Links.{pair_of, row_to, links_to}
use Rattle.plan.specs.Stored.{square, Holds}
use Rattle.plan.specs.Private.{plan_of}
use Rattle.plan.proofs.Squares.{Related, square_elim, square_intro}
use Rattle.plan.proofs.Contacts.{links_rise}
use Rattle.plan.proofs.Judged.{few_points, count_is}
use Rattle.lists.proofs.Search.{none_in, in_one, in_tail, any_intro, any_elim, collect_intro, collect_elim, below_intro, below_elim}
use Rattle.lists.proofs.Truth.{or_cases, side}

-- ---- rising lists
pub in_rises : (k low n : ℕ) (ks : List ℕ) → Rises low n ks → In k ks → (low ≤ k) × (k / 256 < k % 256) × (k % 256 < n)
in_rises k low n [] r x'' = elim x'' [ ]
in_rises k low n (x ∷ xs) r here = (r.0, r.1, r.2)
in_rises k low n (x ∷ xs) r (next i) = let w = in_rises k (suc x) n xs r.3 i in (omega (arith, w.0, r.0), w.1, w.2)

head_least : (k x low n : ℕ) (xs : List ℕ) → Rises low n (x ∷ xs) → In k (x ∷ xs) → x ≤ k
head_least k x low n xs r i = (in_rises k x n (x ∷ xs) (omega arith, r.1, r.2, r.3) i).0

rises_same : (low n : ℕ) (xs ys : List ℕ) → Rises low n xs → Rises low n ys → ((k : ℕ) → In k xs → In k ys)
    → ((k : ℕ) → In k ys → In k xs)
    → xs ≡ ys
rises_same low n [] [] r s f g = refl
rises_same low n [] (y ∷ ys) r s f g = none_in (g y here)
rises_same low n (x ∷ xs) [] r s f g = none_in (f x here)
rises_same low n (x ∷ xs) (y ∷ ys) r s f g =
    let e : x ≡ y = le_antisymm (head_least y x low n xs r (g y here)) (head_least x y low n ys s (f x here)) in
    ap₂ (λ (z : ℕ) (l : List ℕ). z ∷ l) e
    (rises_same (suc x) n xs ys r.3 (subst (λ (z : ℕ). Rises (suc z) n ys) (sym e) s.3)
    (λ k i. in_tail (f k (next i)) (λ q. omega (arith, (in_rises k (suc x) n xs r.3 i).0)))
    (λ k i. in_tail (g k (next i)) (λ q. omega (arith, (in_rises k (suc y) n ys s.3 i).0))))

-- ---- what the contacts of rows are
record Linked (k n i j : ℕ) (row : ℕ → Bool) : Type 0 where
  later : i < j
  within : j < n
  there : row j ≡ true
  number : k ≡ i * 256 + j

pair_elim : (k n i j : ℕ) (row : ℕ → Bool) → j < n → In k (pair_of i j row) → Linked k n i j row
unfolding pair_of
pair_elim k n i j row m = go (ltb i j && row j) refl
  where
    go : (b : Bool) → (ltb i j && row j) ≡ b → In k (cond b ((i * 256 + j) ∷ []) []) → Linked k n i j row
    go true q x = let w = (and-eq-true_iff (ltb i j) (row j)).0 q in
        record { later = ltb-true i j w.0; within = m; there = w.1; number = in_one x }
    go false q x = none_in x

pair_intro : (i j : ℕ) (row : ℕ → Bool) → i < j → row j ≡ true → In (i * 256 + j) (pair_of i j row)
unfolding pair_of
pair_intro i j row l e =
    subst (λ (b : Bool). In (i * 256 + j) (cond b ((i * 256 + j) ∷ []) [])) (sym (ap₂ ◌&&◌ (lt-ltb i j l) e)) here

links_elim : (k n : ℕ) (rows : ℕ → ℕ → Bool) → In k (links_to n n rows) → (i : ℕ) × (j : ℕ) × Linked k n i j (rows i)
unfolding links_to row_to
links_elim k n rows x =
    let r = collect_elim (λ i. row_to n i (rows i)) (below n) x in
    let s = collect_elim (λ j. pair_of r.0 j (rows r.0)) (below n) r.2 in
    (r.0, s.0, pair_elim k n r.0 s.0 (rows r.0) (below_elim n s.0 s.1) s.2)

links_intro : (n i j : ℕ) (rows : ℕ → ℕ → Bool) → i < j → j < n → rows i j ≡ true → In (i * 256 + j) (links_to n n rows)
unfolding links_to row_to
links_intro n i j rows l m e =
    collect_intro (λ a. row_to n a (rows a)) (below_intro n i (omega arith))
    (collect_intro (λ b. pair_of i b (rows i)) (below_intro n j m) (pair_intro i j (rows i) l e))

-- ---- the contacts of a plan's square are its contacts
module _ (p : Plan) (few : length p.points ≤ 256) (rise : Rises 0 (length p.points) p.contacts) where
  there : (k : ℕ) → In k (links_to (length p.points) (length p.points) (square p)) → In k p.contacts
  there k x =
      let r = links_elim k (length p.points) (square p) x in
      let l = r.2 in
      let w = square_elim p r.0 r.1 l.there in
      ⊎_elim (λ q. absurd (omega (arith, l.later))) (λ q. found r.0 r.1 l w (any_elim (between r.0 r.1) p.contacts q))
      w.how
    where
      found : (i j : ℕ) → Linked k (length p.points) i j (square p i) → Related p i j
          → (y : ℕ) × In y p.contacts × (between i j y ≡ true) → In k p.contacts
      found i j l w y =
          ⊎_elim (λ q. subst (λ (z : ℕ). In z p.contacts) (eqb-true y.0 (i * 256 + j) q ∙ sym l.number) y.1)
          (λ q. let z : y.0 ≡ j * 256 + i = eqb-true y.0 (j * 256 + i) q in
          let u = in_rises y.0 0 (length p.points) p.contacts rise y.1 in
          let v : y.0 / 256 < y.0 % 256 = u.1 in
          let a = l.later in
          let b : i < length p.points = w.left in
          absurd (omega arith))
          (or_cases (eqb y.0 (i * 256 + j)) (eqb y.0 (j * 256 + i)) y.2)

  back : (k : ℕ) → In k p.contacts → In k (links_to (length p.points) (length p.points) (square p))
  back k x =
      let w = in_rises k 0 (length p.points) p.contacts rise x in
      let l : k / 256 < k % 256 = w.1 in
      let m : k % 256 < length p.points = w.2 in
      let z : k ≡ k / 256 * 256 + k % 256 = omega arith in
      subst (λ (y : ℕ). In y (links_to (length p.points) (length p.points) (square p))) (sym z)
      (links_intro (length p.points) (k / 256) (k % 256) (square p) l m
      (square_intro p (k / 256) (k % 256) (record {
        left = omega arith;
        right = m;
        how = inr (any_intro (between (k / 256) (k % 256)) x
            (or_inl (eqb k (k / 256 * 256 + k % 256)) (eqb k (k % 256 * 256 + k / 256)) (eq-eqb k (k / 256 * 256 + k % 256) z)));
      })))

  links_again : links_to (length p.points) (length p.points) (square p) ≡ p.contacts
  links_again =
      rises_same 0 (length p.points) (links_to (length p.points) (length p.points) (square p)) p.contacts
      (links_rise (length p.points) (length p.points) (square p) few) rise there back

-- what points and rows hold is told by them
module _ (r : PlanPoints) (rows : ℕ → ℕ → Bool) where
  plan_again : (p : Plan) → IsPlan p → Holds r rows p → plan_of r.names (take (count_of r) r.points) (links_to (count_of r) (count_of r) rows) ≡ p
  unfolding pad
  plan_again p h s =
      let n : count_of r ≡ length p.points = count_is p h r rows s in
      let pts : take (count_of r) r.points ≡ p.points =
      ap₂ take n s.points ∙ take_at p.points (replicate (most_points - length p.points) 0) (length p.points) refl in
      let ks : links_to (count_of r) (count_of r) rows ≡ p.contacts =
      ap₂ (λ (x : ℕ) (t : ℕ → ℕ → Bool). links_to x x t) n s.rows ∙ links_again p (omega (arith, few_points p h)) h.rise in
      ap (λ (x : ℕ). plan_of x (take (count_of r) r.points) (links_to (count_of r) (count_of r) rows)) s.names
      ∙ ap₂ (plan_of p.names) pts ks

  pub one_plan : (p q : Plan) → IsPlan p → IsPlan q → Holds r rows p → Holds r rows q → p ≡ q
  one_plan p q h k s t = sym (plan_again p h s) ∙ plan_again q k t

-- ---- rows that are reflexive and symmetric are the contact of a plan that has their contacts
module _ (n : ℕ) (few : n ≤ 256) (rows : ℕ → ℕ → Bool) (self : (a : ℕ) → a < n → rows a a ≡ true)
    (turn : (a b : ℕ) → a < n → b < n → rows a b ≡ true → rows b a ≡ true) where
  -- the contact a pair of them has
  one_way : (a b : ℕ) → a < b → b < n → rows a b ≡ true → (between a b (a * 256 + b) ≡ true) × In (a * 256 + b) (links_to n n rows)
  one_way a b l m e = (
    or_inl (eqb (a * 256 + b) (a * 256 + b)) (eqb (a * 256 + b) (b * 256 + a))
        (eq-eqb (a * 256 + b) (a * 256 + b) refl),
    links_intro n a b rows l m e,
  )

  pub links_kept : (p : Plan) → p.contacts ≡ links_to n n rows → (a b : ℕ) → a < n → b < n → touching p a b ≡ rows a b
  unfolding touching
  links_kept p c a b l m = ap (λ (ks : List ℕ). eqb a b || any (between a b) ks) c ∙ partial_order_laws.le_antisymm _ _ there back
    where
      links : List ℕ
      links = links_to n n rows

      met : (i j k : ℕ) → Linked k n i j (rows i) → between a b k ≡ true → rows a b ≡ true
      met i j k w e =
          let u = w.later in
          let v = w.within in
          let x = w.number in
          ⊎_elim
          (λ q. let z : k ≡ a * 256 + b = eqb-true k (a * 256 + b) q in
          let s : i ≡ a = omega arith in
          let t : j ≡ b = omega arith in
          sym (ap₂ rows s t) ∙ w.there)
          (λ q. let z : k ≡ b * 256 + a = eqb-true k (b * 256 + a) q in
          let s : i ≡ b = omega arith in
          let t : j ≡ a = omega arith in
          turn b a m l (sym (ap₂ rows s t) ∙ w.there))
          (or_cases (eqb k (a * 256 + b)) (eqb k (b * 256 + a)) e)

      there : (eqb a b || any (between a b) links) ≡ true → rows a b ≡ true
      there e =
          ⊎_elim (λ q. ap (rows a) (sym (eqb-true a b q)) ∙ self a l)
          (λ q. let y = any_elim (between a b) links q in let w = links_elim y.0 n rows y.1 in
          met w.0 w.1 y.0 w.2 y.2)
          (or_cases (eqb a b) (any (between a b) links) e)

      back : rows a b ≡ true → (eqb a b || any (between a b) links) ≡ true
      back e =
          ⊎_elim
          (λ s. let w = one_way a b s m e in or_inr (eqb a b) _ (any_intro (between a b) w.1 w.0))
          (λ s. ⊎_elim
          (λ t. let w = one_way b a t l (turn a b l m e) in
          or_inr (eqb a b) _ (any_intro (between a b) w.1
          (or_comm (eqb (b * 256 + a) (a * 256 + b)) (eqb (b * 256 + a) (b * 256 + a)) ∙ w.0)))
          (λ t. or_inl (eqb a b) _ (eq-eqb a b (omega arith)))
          (side b a))
          (side a b)
