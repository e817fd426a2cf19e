-- Rows that hold a square of contacts: a point more is one bit, a contact more is two. Assumes nothing.
use mathlib.Core.Path.{◌≡◌, sym, ◌∙◌, fun_ext}
use mathlib.Core.Bool.{Bool, true, ◌&&◌, ◌||◌, and-eq-true_iff}
use mathlib.Core.List.{List, [], ◌∷◌, ◌++◌}
use mathlib.Core.Logic.{◌⊎◌, inl, inr, ⊎_elim}
use mathlib.Mathlib.Data.Bool.Basic.{and_intro, or_inl, or_inr, partial_order_laws}
use Prim.Native.Nat.{ℕ, ◌+◌, ◌*◌, ◌≤◌, ◌<◌}
use native.Mathlib.Omega.{arith}
use native.Mathlib.Decide.{ℕ_discrete as dec_eq}
use lib.Dec.{eqb, ltb}
use lib.ListN.{length}
use borrow.Author.Tests.{eqb-true, eq-eqb, ltb-true, lt-ltb}
use Rattle.lists.specs.Search.{any}
use Rattle.plan.specs.Words.{Plan}
use Rattle.plan.specs.Floor.{between, touching}
use Rattle.plan.specs.Stored.{square}
use Rattle.plan.specs.Private.{plan_of, add_at, joined_of, self_of}
use Rattle.lists.proofs.Search.{any_last}
use Rattle.lists.proofs.Truth.{or_cases}

-- ---- what a square says
pub record Related (p : Plan) (a b : ℕ) : Type 0 where
  pub left : a < length p.points
  pub right : b < length p.points
  pub how : (a ≡ b) ⊎ (any (between a b) p.contacts ≡ true)

pub square_elim : (p : Plan) (a b : ℕ) → square p a b ≡ true → Related p a b
unfolding square touching
square_elim p a b e =
    let n = length p.points in
    let u = (and-eq-true_iff (ltb a n && ltb b n) (touching p a b)).0 e in
    let v = (and-eq-true_iff (ltb a n) (ltb b n)).0 u.0 in
    record {
      left = ltb-true a n v.0;
      right = ltb-true b n v.1;
      how = ⊎_elim (λ q. inl (eqb-true a b q)) (λ q. inr q) (or_cases (eqb a b) (any (between a b) p.contacts) u.1);
    }

pub square_intro : (p : Plan) (a b : ℕ) → Related p a b → square p a b ≡ true
unfolding square touching
square_intro p a b r =
    let n = length p.points in
    and_intro (and_intro (lt-ltb a n r.left) (lt-ltb b n r.right))
    (⊎_elim (λ q. or_inl (eqb a b) (any (between a b) p.contacts) (eq-eqb a b q))
    (λ q. or_inr (eqb a b) (any (between a b) p.contacts) q) r.how)

-- ---- one position more in a row, one contact more
add_elim : (t : ℕ → ℕ → Bool) (i j a b : ℕ) → add_at t i j a b ≡ true → (t a b ≡ true) ⊎ ((a ≡ i) × (b ≡ j))
add_elim t i j a b e =
    ⊎_elim (λ q. inl q) (λ q. let w = (and-eq-true_iff (eqb a i) (eqb b j)).0 q in inr (eqb-true a i w.0, eqb-true b j w.1))
    (or_cases (t a b) (eqb a i && eqb b j) e)

add_old : (t : ℕ → ℕ → Bool) (i j a b : ℕ) → t a b ≡ true → add_at t i j a b ≡ true
add_old t i j a b e = or_inl (t a b) (eqb a i && eqb b j) e

add_new : (t : ℕ → ℕ → Bool) (i j a b : ℕ) → a ≡ i → b ≡ j → add_at t i j a b ≡ true
add_new t i j a b p q = or_inr (t a b) (eqb a i && eqb b j) (and_intro (eq-eqb a i p) (eq-eqb b j q))

module _ (t : ℕ → ℕ → Bool) (i j a b : ℕ) where
  joined_elim : joined_of t i j a b ≡ true → (t a b ≡ true) ⊎ (((a ≡ i) × (b ≡ j)) ⊎ ((a ≡ j) × (b ≡ i)))
  unfolding joined_of
  joined_elim e =
      ⊎_elim (λ q. ⊎_elim (λ x. inl x) (λ x. inr (inl x)) (add_elim t i j a b q)) (λ q. inr (inr q)) (add_elim (add_at t i j) j i a b e)

  joined_old : t a b ≡ true → joined_of t i j a b ≡ true
  unfolding joined_of
  joined_old e = add_old (add_at t i j) j i a b (add_old t i j a b e)

  joined_one : a ≡ i → b ≡ j → joined_of t i j a b ≡ true
  unfolding joined_of
  joined_one p q = add_old (add_at t i j) j i a b (add_new t i j a b p q)

  joined_other : a ≡ j → b ≡ i → joined_of t i j a b ≡ true
  unfolding joined_of
  joined_other p q = add_new (add_at t i j) j i a b p q

-- ---- points that are in contact with themselves alone
pub self_elim : (n a b : ℕ) → self_of n a b ≡ true → (a < n) × (a ≡ b)
unfolding self_of
self_elim n a b e = let u = (and-eq-true_iff (ltb a n) (eqb a b)).0 e in (ltb-true a n u.0, eqb-true a b u.1)

self_intro : (n a b : ℕ) → a < n → a ≡ b → self_of n a b ≡ true
unfolding self_of
self_intro n a b l e = and_intro (lt-ltb a n l) (eq-eqb a b e)

-- one more of them
pub self_more : (i : ℕ) → add_at (self_of i) i i ≡ self_of (i + 1)
self_more i = fun_ext (λ a. fun_ext (λ b. partial_order_laws.le_antisymm _ _ (there a b) (back a b (dec_eq a i))))
  where
    there : (a b : ℕ) → add_at (self_of i) i i a b ≡ true → self_of (i + 1) a b ≡ true
    there a b q =
        ⊎_elim (λ x. let u = self_elim i a b x in self_intro (i + 1) a b (omega (arith, u.0)) u.1)
        (λ x. self_intro (i + 1) a b (omega (arith, x.0)) (x.0 ∙ sym x.1))
        (add_elim (self_of i) i i a b q)

    back : (a b : ℕ) → Dec (a ≡ i) → self_of (i + 1) a b ≡ true → add_at (self_of i) i i a b ≡ true
    back a b (yes y) q = let u = self_elim (i + 1) a b q in add_new (self_of i) i i a b y (sym u.1 ∙ y)
    back a b (no y) q = let u = self_elim (i + 1) a b q in
        add_old (self_of i) i i a b (self_intro i a b (omega (arith, u.0, y)) u.1)

-- they are the square of a plan of so many points, without contacts
pub self_square : (n : ℕ) (pts : List ℕ) → self_of (length pts) ≡ square (plan_of n pts [])
self_square n pts = fun_ext (λ a. fun_ext (λ b. partial_order_laws.le_antisymm _ _ (there a b) (back a b)))
  where
    there : (a b : ℕ) → self_of (length pts) a b ≡ true → square (plan_of n pts []) a b ≡ true
    there a b q =
        let u = self_elim (length pts) a b q in
        square_intro (plan_of n pts []) a b (record { left = u.0; right = omega (arith, u.0, u.1); how = inl u.1 })

    back : (a b : ℕ) → square (plan_of n pts []) a b ≡ true → self_of (length pts) a b ≡ true
    back a b q =
        let r = square_elim (plan_of n pts []) a b q in
        self_intro (length pts) a b r.left
        (⊎_elim (λ z. z) (λ z. absurd (let w : ◌≡◌ {A = ℕ} 0 1 = cc in omega arith)) r.how)

-- ---- one contact more
module _ (n : ℕ) (pts ks : List ℕ) (i j : ℕ) (later : i < j) (within : j < length pts) (few : length pts ≤ 256) where
  pub square_link : joined_of (square (plan_of n pts ks)) i j ≡ square (plan_of n pts (ks ++ ((i * 256 + j) ∷ [])))
  square_link = fun_ext (λ a. fun_ext (λ b. partial_order_laws.le_antisymm _ _ (there a b) (back a b)))
    where
      k : ℕ
      k = i * 256 + j

      more : (a b : ℕ) → any (between a b) (ks ++ (k ∷ [])) ≡ (any (between a b) ks || between a b k)
      more a b = any_last (between a b) ks k

      there : (a b : ℕ) → joined_of (square (plan_of n pts ks)) i j a b ≡ true → square (plan_of n pts (ks ++ (k ∷ []))) a b ≡ true
      there a b q =
          square_intro (plan_of n pts (ks ++ (k ∷ []))) a b
          (⊎_elim
          (λ x. let r = square_elim (plan_of n pts ks) a b x in
          record {
            left = r.left;
            right = r.right;
            how = ⊎_elim (λ z. inl z)
                (λ z. inr (more a b ∙ or_inl (any (between a b) ks) (between a b k) z)) r.how;
          })
          (λ x. ⊎_elim one other x)
          (joined_elim (square (plan_of n pts ks)) i j a b q))
        where
          one : (a ≡ i) × (b ≡ j) → Related (plan_of n pts (ks ++ (k ∷ []))) a b
          one z =
              let s : k ≡ a * 256 + b = omega (arith, z.0, z.1) in
              record {
                left = omega (arith, z.0);
                right = omega (arith, z.1);
                how = inr (more a b ∙ or_inr (any (between a b) ks) (between a b k)
                    (or_inl (eqb k (a * 256 + b)) (eqb k (b * 256 + a)) (eq-eqb k (a * 256 + b) s)));
              }

          other : (a ≡ j) × (b ≡ i) → Related (plan_of n pts (ks ++ (k ∷ []))) a b
          other z =
              let s : k ≡ b * 256 + a = omega (arith, z.0, z.1) in
              record {
                left = omega (arith, z.0);
                right = omega (arith, z.1);
                how = inr (more a b ∙ or_inr (any (between a b) ks) (between a b k)
                    (or_inr (eqb k (a * 256 + b)) (eqb k (b * 256 + a)) (eq-eqb k (b * 256 + a) s)));
              }

      back : (a b : ℕ) → square (plan_of n pts (ks ++ (k ∷ []))) a b ≡ true → joined_of (square (plan_of n pts ks)) i j a b ≡ true
      back a b q = go (square_elim (plan_of n pts (ks ++ (k ∷ []))) a b q)
        where
          old : Related (plan_of n pts ks) a b → joined_of (square (plan_of n pts ks)) i j a b ≡ true
          old r = joined_old (square (plan_of n pts ks)) i j a b (square_intro (plan_of n pts ks) a b r)

          go : Related (plan_of n pts (ks ++ (k ∷ []))) a b → joined_of (square (plan_of n pts ks)) i j a b ≡ true
          go r =
              let l : a < length pts = r.left in
              let m : b < length pts = r.right in
              ⊎_elim
              (λ z. old (record { left = l; right = m; how = inl z }))
              (λ z. ⊎_elim
              (λ x. old (record { left = l; right = m; how = inr x }))
              (λ x. ⊎_elim
              (λ y. let s : i * 256 + j ≡ a * 256 + b = eqb-true (i * 256 + j) (a * 256 + b) y in
              let u : a ≡ i = omega arith in let v : b ≡ j = omega arith in joined_one (square (plan_of n pts ks)) i j a b u v)
              (λ y. let s : i * 256 + j ≡ b * 256 + a = eqb-true (i * 256 + j) (b * 256 + a) y in
              let u : a ≡ j = omega arith in let v : b ≡ i = omega arith in joined_other (square (plan_of n pts ks)) i j a b u v)
              (or_cases (eqb k (a * 256 + b)) (eqb k (b * 256 + a)) x))
              (or_cases (any (between a b) ks) (between a b k) (sym (more a b) ∙ z)))
              r.how
