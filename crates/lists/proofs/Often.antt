-- Lists in which each element stands equally often have the same elements and the same length. Equality is decided, so that each stands some
-- number of times; an element of one is taken out of both, and the rest follows by recursion. Assumes nothing.
use mathlib.Core.Path.{◌≡◌, refl, ap, subst}
use mathlib.Core.HLevel.{Discrete}
use mathlib.Core.List.{List, [], ◌∷◌, ◌++◌}
use Prim.Native.Nat.{ℕ, suc, ◌+◌, ◌<◌}
use native.Mathlib.Omega.{arith}
use lib.ListN.{length, length-append}
use Rattle.lists.specs.Search.{In, here, next}
use Rattle.lists.specs.Often.{Times, none, again, other, EquallyOften}
use Rattle.lists.proofs.Search.{at_head}

module _ {A : Type 0} where
  -- an element stands between two parts
  in_parts : {x : A} {xs : List A} → In x xs → (before : List A) × (later : List A) × (xs ≡ before ++ x ∷ later)
  in_parts (here {xs}) = ([], xs, refl)
  in_parts (next {x = y} i) = let r = in_parts i in (y ∷ r.0, r.1, ap (λ (l : List A). y ∷ l) r.2)

module _ {A : Type 0} (equal : Discrete A) where
  abbrev one_if : {x y : A} → Dec (x ≡ y) → ℕ
  one_if (yes p) = 1
  one_if (no n) = 0

  -- how often x stands in a list
  abbrev times : A → List A → ℕ
  times x [] = 0
  times x (y ∷ ys) = one_if (equal x y) + times x ys

  one_self : (x : A) → one_if (equal x x) ≡ 1
  one_self x = go (equal x x)
    where
      go : (d : Dec (x ≡ x)) → one_if d ≡ 1
      go (yes p) = refl
      go (no n) = absurd (n refl)

  one_other : (x y : A) → (x ≡ y → ⊥) → one_if (equal x y) ≡ 0
  one_other x y h = go (equal x y)
    where
      go : (d : Dec (x ≡ y)) → one_if d ≡ 0
      go (yes p) = absurd (h p)
      go (no n) = refl

  -- so often it does, and no other number of times
  times_are : (x : A) (xs : List A) → Times x xs (times x xs)
  times_are x [] = none
  times_are x (y ∷ ys) = go (equal x y) (times_are x ys)
    where
      go : (d : Dec (x ≡ y)) → Times x ys (times x ys) → Times x (y ∷ ys) (one_if d + times x ys)
      go (yes p) h = subst (Times x (y ∷ ys)) (omega arith) (subst (λ (z : A). Times x (z ∷ ys) (suc (times x ys))) p (again h))
      go (no n) h = subst (Times x (y ∷ ys)) (omega arith) (other n h)

  times_only : {x : A} {xs : List A} {n : ℕ} → Times x xs n → n ≡ times x xs
  times_only none = refl
  times_only {x} (again h) = omega (arith, times_only h, one_self x)
  times_only {x} (other {y} n h) = omega (arith, times_only h, one_other x y n)

  times_append : (x : A) (xs ys : List A) → times x (xs ++ ys) ≡ times x xs + times x ys
  times_append x [] ys = omega arith
  times_append x (y ∷ xs) ys = omega (arith, times_append x xs ys)

  times_in : (x : A) (xs : List A) → 0 < times x xs → In x xs
  times_in x [] l = absurd (omega arith)
  times_in x (y ∷ ys) l = go (equal x y) l (times_in x ys)
    where
      go : (d : Dec (x ≡ y)) → 0 < one_if d + times x ys → (0 < times x ys → In x ys) → In x (y ∷ ys)
      go (yes p) h rest = at_head p
      go (no n) h rest = next (rest (omega arith))

  in_times : {x : A} {xs : List A} → In x xs → 0 < times x xs
  in_times {x} here = omega (arith, one_self x)
  in_times (next i) = omega (arith, in_times i)

  abbrev Equally : List A → List A → Type 0
  Equally xs ys = (x : A) → times x xs ≡ times x ys

  counted : (xs ys : List A) → EquallyOften xs ys → Equally xs ys
  counted xs ys h x = times_only ((h x (times x xs)).0 (times_are x xs))

  equally_length : (xs ys : List A) → Equally xs ys → length xs ≡ length ys
  equally_length [] [] h = refl
  equally_length [] (y ∷ ys) h = absurd (omega (arith, h y, one_self y))
  equally_length (x ∷ xs) ys h =
      let r = in_parts (times_in x ys (omega (arith, h x, one_self x))) in
      let before : List A = r.0 in
      let later : List A = r.1 in
      let rest : Equally xs (before ++ later)
      = λ z. omega (arith, h z, ap (times z) r.2, times_append z before (x ∷ later), times_append z before later) in
      omega (arith, equally_length xs (before ++ later) rest, ap length r.2, length-append before (x ∷ later), length-append before later)

  -- lists in which each stands equally often
  module _ (xs ys : List A) (h : EquallyOften xs ys) where
    pub often_in : (x : A) → In x xs → In x ys
    often_in x i = times_in x ys (omega (arith, counted xs ys h x, in_times i))

    pub often_length : length xs ≡ length ys
    often_length = equally_length xs ys (counted xs ys h)

-- either way round
pub often_back : {A : Type 0} (xs ys : List A) → EquallyOften xs ys → EquallyOften ys xs
often_back xs ys h x n = ((h x n).1, (h x n).0)
