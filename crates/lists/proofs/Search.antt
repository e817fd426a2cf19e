-- The laws of search in a list, all by recursion on the list: what passes a test is found, what is found passes it, and a search
-- in two lists, one after the other, goes list by list; and how many are found, kept or gathered at most. Assumes nothing.
use mathlib.Core.Bool.{Bool, true, false, ◌&&◌, ◌||◌, cond, or_assoc, or-false, and-true, and_assoc, true≢false, and-eq-true_iff}
use mathlib.Core.Path.{◌≡◌, refl, sym, ap, ap₂, ◌∙◌, subst}
use mathlib.Core.Logic.{◌⊎◌, inl, inr, ⊎_elim}
use mathlib.Core.List.{List, [], ◌∷◌, ◌++◌, map, append-nil, append_assoc, nil≢cons, head-eq_of_cons-eq}
use mathlib.Mathlib.Data.Bool.Basic.{and_intro, eq-false_of_not-eq-true, or_inl, or_inr}
use Prim.Native.Nat.{ℕ, zero, suc, ◌+◌, ◌*◌, ◌≤◌, ◌<◌, max}
use native.Mathlib.Omega.{arith}
use lib.ListN.{length, get_or, take, drop, length-append}
use lib.Dec.{eqb}
use borrow.Author.Tests.{eqb-true, eqb-false, eq-eqb, ne_eqb}
use Rattle.lists.specs.Search.{In, here, next, any, all, first, keep, or_else, collect, from, below, elem}
use Rattle.lists.proofs.Truth.{clash, cases, or_cases}

-- ---- membership

module _ {A : Type 0} where
  pub none_in : {x : A} {P : Type 0} → In x [] → P
  none_in i = elim i [ ]

  pub uncons : {x y : A} {xs : List A} → In x (y ∷ xs) → (x ≡ y) ⊎ In x xs
  uncons here = inl refl
  uncons (next i) = inr i

  pub in_one : {x y : A} → In x (y ∷ []) → x ≡ y
  in_one i = ⊎_elim (λ q. q) (λ j. none_in j) (uncons i)

  pub in_tail : {x y : A} {xs : List A} → In x (y ∷ xs) → (x ≡ y → ⊥) → In x xs
  in_tail i h = ⊎_elim (λ q. absurd (h q)) (λ j. j) (uncons i)

  pub at_head : {x y : A} {xs : List A} → x ≡ y → In x (y ∷ xs)
  at_head {y} {xs} q = subst (λ w. In w (y ∷ xs)) (sym q) here

  -- a part of a list
  pub in_take : (n : ℕ) (xs : List A) {z : A} → In z (take n xs) → In z xs
  in_take zero xs i = none_in i
  in_take (suc n) [] i = i
  in_take (suc n) (x ∷ xs) i = ⊎_elim (λ e. at_head e) (λ k. next (in_take n xs k)) (uncons i)

  pub in_drop : (n : ℕ) (xs : List A) {z : A} → In z (drop n xs) → In z xs
  in_drop zero xs i = i
  in_drop (suc n) [] i = i
  in_drop (suc n) (x ∷ xs) i = next (in_drop n xs i)

  pub in_left : {x : A} {xs : List A} (ys : List A) → In x xs → In x (xs ++ ys)
  in_left ys here = here
  in_left ys (next i) = next (in_left ys i)

  pub in_right : {x : A} (xs : List A) {ys : List A} → In x ys → In x (xs ++ ys)
  in_right [] i = i
  in_right (z ∷ xs) i = next (in_right xs i)

  pub in_either : {x : A} (xs ys : List A) → In x (xs ++ ys) → In x xs ⊎ In x ys
  in_either [] ys i = inr i
  in_either (z ∷ xs) ys i =
      ⊎_elim (λ q. inl (at_head q)) (λ j. ⊎_elim (λ k. inl (next k)) (λ k. inr k) (in_either xs ys j)) (uncons i)

  -- an element has a place, and a place an element
  pub place : (d : A) {x : A} {xs : List A} → In x xs → (i : ℕ) × (i < length xs) × (get_or xs i d ≡ x)
  place d (here {xs}) = (zero, omega arith, refl)
  place d (next {x} {xs} i) = let r = place d i in (suc r.0, omega (arith, r.1), r.2)

  pub placed : (d : A) (xs : List A) (i : ℕ) → i < length xs → In (get_or xs i d) xs
  placed d [] i h = absurd (omega arith)
  placed d (y ∷ ys) zero h = here
  placed d (y ∷ ys) (suc i) h = next (placed d ys i (omega arith))

module _ {A B : Type 0} (f : A → B) where
  pub map_intro : {x : A} {xs : List A} → In x xs → In (f x) (map f xs)
  map_intro here = here
  map_intro (next i) = next (map_intro i)

  pub map_elim : {y : B} (xs : List A) → In y (map f xs) → (x : A) × (y ≡ f x) × In x xs
  map_elim [] i = none_in i
  map_elim (x ∷ xs) i = ⊎_elim (λ q. (x, q, here)) (λ j. let r = map_elim xs j in (r.0, r.1, next r.2)) (uncons i)

-- ---- some, every

module _ {A : Type 0} where
  pub any_intro : (p : A → Bool) {x : A} {xs : List A} → In x xs → p x ≡ true → any p xs ≡ true
  any_intro p {x} (here {xs}) h = or_inl (p x) (any p xs) h
  any_intro p (next {x} {xs} i) h = or_inr (p x) (any p xs) (any_intro p i h)

  pub any_elim : (p : A → Bool) (xs : List A) → any p xs ≡ true → (x : A) × In x xs × (p x ≡ true)
  any_elim p [] h = absurd (true≢false (sym h))
  any_elim p (y ∷ ys) h =
      ⊎_elim (λ k. (y, here, k)) (λ k. let r = any_elim p ys k in (r.0, next r.1, r.2)) (or_cases _ _ h)

  -- no element passes
  pub none_elim : (p : A → Bool) {x : A} {xs : List A} → any p xs ≡ false → In x xs → p x ≡ false
  none_elim p {x} h i = eq-false_of_not-eq-true (λ k. clash (any_intro p i k) h)

  pub none_intro : (p : A → Bool) (xs : List A) → ((x : A) → In x xs → p x ≡ true → ⊥) → any p xs ≡ false
  none_intro p xs h = eq-false_of_not-eq-true (λ k. let r = any_elim p xs k in h r.0 r.1 r.2)

  pub all_intro : (p : A → Bool) (xs : List A) → ((x : A) → In x xs → p x ≡ true) → all p xs ≡ true
  all_intro p [] h = refl
  all_intro p (y ∷ ys) h = and_intro (h y here) (all_intro p ys (λ x i. h x (next i)))

  pub all_elim : (p : A → Bool) {x : A} {xs : List A} → In x xs → all p xs ≡ true → p x ≡ true
  all_elim p {x} (here {xs}) h = ((and-eq-true_iff (p x) (all p xs)).0 h).0
  all_elim p (next {x} {xs} i) h = all_elim p i ((and-eq-true_iff (p x) (all p xs)).0 h).1

  -- the test may be changed for one that is the same at the elements
  pub any_same : (p q : A → Bool) (xs : List A) → ((x : A) → In x xs → p x ≡ q x) → any p xs ≡ any q xs
  any_same p q [] h = refl
  any_same p q (x ∷ xs) h = ap₂ ◌||◌ (h x here) (any_same p q xs (λ y i. h y (next i)))

  -- or for one that passes more
  pub any_wider : (p q : A → Bool) (xs : List A) → ((x : A) → p x ≡ true → q x ≡ true) → any p xs ≡ true → any q xs ≡ true
  any_wider p q xs h t = let w = any_elim p xs t in any_intro q w.1 (h w.0 w.2)

  -- one list after the other
  pub any_append : (p : A → Bool) (xs ys : List A) → any p (xs ++ ys) ≡ (any p xs || any p ys)
  any_append p [] ys = refl
  any_append p (x ∷ xs) ys = ap (λ (b : Bool). p x || b) (any_append p xs ys) ∙ sym (or_assoc (p x) (any p xs) (any p ys))

  pub any_last : (p : A → Bool) (xs : List A) (x : A) → any p (xs ++ x ∷ []) ≡ (any p xs || p x)
  any_last p xs x = any_append p xs (x ∷ []) ∙ ap (λ (b : Bool). any p xs || b) (or-false (p x))

  pub all_last : (p : A → Bool) (xs : List A) (x : A) → all p (xs ++ x ∷ []) ≡ (all p xs && p x)
  all_last p [] x = and-true (p x)
  all_last p (y ∷ ys) x = ap (λ (b : Bool). p y && b) (all_last p ys x) ∙ sym (and_assoc (p y) (all p ys) (p x))

pub all_map : {A B : Type 0} (f : A → B) (p : B → Bool) (xs : List A) → all p (map f xs) ≡ all (λ x. p (f x)) xs
all_map f p [] = refl
all_map f p (x ∷ xs) = ap (λ b. p (f x) && b) (all_map f p xs)

-- ---- the first

module _ {A : Type 0} where
  pub first_some : (p : A → Bool) (xs : List A) → any p xs ≡ true → (x : A) × (first p xs ≡ x ∷ []) × In x xs × (p x ≡ true)
  first_some p [] h = absurd (true≢false (sym h))
  first_some p (y ∷ ys) h =
      cases (p y) (λ e. (y, rw e, here, e))
      (λ e. later e (first_some p ys (⊎_elim (λ k. clash k e) (λ k. k) (or_cases _ _ h))))
    where
      later : p y ≡ false → (x : A) × (first p ys ≡ x ∷ []) × In x ys × (p x ≡ true)
          → (x : A) × (first p (y ∷ ys) ≡ x ∷ []) × In x (y ∷ ys) × (p x ≡ true)
      later e r = (r.0, rw e r.1, next r.2, r.3)

  pub first_none : (p : A → Bool) (xs : List A) → any p xs ≡ false → first p xs ≡ []
  first_none p [] h = refl
  first_none p (y ∷ ys) h =
      let e : p y ≡ false = none_elim p {xs = y ∷ ys} h here in
      rw e (first_none p ys (eq-false_of_not-eq-true (λ k. clash (or_inr (p y) (any p ys) k) h)))

  -- what is found is in the list and passes
  pub first_found : (p : A → Bool) (xs : List A) {x : A} → first p xs ≡ x ∷ [] → In x xs × (p x ≡ true)
  first_found p xs {x} e =
      cases (any p xs)
      (λ h. let r = first_some p xs h in
      let q : x ≡ r.0 = head-eq_of_cons-eq (sym e ∙ r.1) in
      (subst (λ z. In z xs) (sym q) r.2, ap p q ∙ r.3))
      (λ h. absurd (nil≢cons (sym (first_none p xs h) ∙ e)))

  pub first_in : (p : A → Bool) (xs : List A) {x : A} → In x (first p xs) → In x xs × (p x ≡ true)
  first_in p xs {x} i =
      cases (any p xs)
      (λ h. let r = first_some p xs h in
      let q : x ≡ r.0 = in_one (subst (In x) r.1 i) in
      (subst (λ z. In z xs) (sym q) r.2, ap p q ∙ r.3))
      (λ h. none_in (subst (In x) (first_none p xs h) i))

  pub first_append : (p : A → Bool) (xs ys : List A) → first p (xs ++ ys) ≡ or_else (first p xs) (first p ys)
  first_append p [] ys = refl
  first_append p (x ∷ xs) ys = pick (p x) (first_append p xs ys)
    where
      pick : (b : Bool) → first p (xs ++ ys) ≡ or_else (first p xs) (first p ys)
          → cond b (x ∷ []) (first p (xs ++ ys)) ≡ or_else (cond b (x ∷ []) (first p xs)) (first p ys)
      pick true h = refl
      pick false h = h

  -- at most one is found
  pub first_short : (p : A → Bool) (xs : List A) → length (first p xs) ≤ 1
  first_short p [] = omega arith
  first_short p (x ∷ xs) = pick (p x) (first_short p xs)
    where
      pick : (b : Bool) → length (first p xs) ≤ 1 → length (cond b (x ∷ []) (first p xs)) ≤ 1
      pick true h = omega arith
      pick false h = h

pub first_map : {A B : Type 0} (f : A → B) (p : B → Bool) (xs : List A) → first p (map f xs) ≡ map f (first (λ x. p (f x)) xs)
first_map f p [] = refl
first_map f p (x ∷ xs) = pick (p (f x)) (first_map f p xs)
  where
    pick : (b : Bool) → first p (map f xs) ≡ map f (first (λ y. p (f y)) xs)
        → cond b (f x ∷ []) (first p (map f xs)) ≡ map f (cond b (x ∷ []) (first (λ y. p (f y)) xs))
    pick true h = refl
    pick false h = h

-- ---- those that pass, one list or the other, the lists that a function gives

module _ {A : Type 0} where
  pub keep_intro : (p : A → Bool) {x : A} {xs : List A} → In x xs → p x ≡ true → In x (keep p xs)
  keep_intro p {x} (here {xs}) h = rw h here
  keep_intro p {x} (next {x = y} {xs} i) h = cases (p y) (λ e. rw e (next (keep_intro p i h))) (λ e. rw e (keep_intro p i h))

  pub keep_elim : (p : A → Bool) (xs : List A) {x : A} → In x (keep p xs) → In x xs × (p x ≡ true)
  keep_elim p [] i = none_in i
  keep_elim p (y ∷ ys) {x} i = go (p y) refl i (λ k. keep_elim p ys k)
    where
      go : (b : Bool) → p y ≡ b → In x (cond b (y ∷ keep p ys) (keep p ys)) → (In x (keep p ys) → In x ys × (p x ≡ true))
          → In x (y ∷ ys) × (p x ≡ true)
      go true e k f = ⊎_elim (λ q. (at_head q, ap p q ∙ e)) (λ j. (next (f j).0, (f j).1)) (uncons k)
      go false e k f = (next (f k).0, (f k).1)

  pub keep_nothing : (p : A → Bool) (xs : List A) → ((x : A) → In x xs → p x ≡ false) → keep p xs ≡ []
  keep_nothing p [] h = refl
  keep_nothing p (x ∷ xs) h = rw (h x here) (keep_nothing p xs (λ y i. h y (next i)))

  pub keep_shorter : (p : A → Bool) (xs : List A) → length (keep p xs) ≤ length xs
  keep_shorter p [] = omega arith
  keep_shorter p (x ∷ xs) = go (p x) (keep_shorter p xs)
    where
      go : (b : Bool) → length (keep p xs) ≤ length xs → length (cond b (x ∷ keep p xs) (keep p xs)) ≤ suc (length xs)
      go true l = omega arith
      go false l = omega arith

  pub keep_append : (p : A → Bool) (xs ys : List A) → keep p (xs ++ ys) ≡ keep p xs ++ keep p ys
  keep_append p [] ys = refl
  keep_append p (x ∷ xs) ys = go (p x) (keep_append p xs ys)
    where
      go : (b : Bool) → keep p (xs ++ ys) ≡ keep p xs ++ keep p ys
          → cond b (x ∷ keep p (xs ++ ys)) (keep p (xs ++ ys)) ≡ cond b (x ∷ keep p xs) (keep p xs) ++ keep p ys
      go true ih = ap (λ (zs : List A). x ∷ zs) ih
      go false ih = ih

  -- where one test is narrower than another, no more pass it
  keep_fewer : (p q : A → Bool) → ((x : A) → p x ≡ true → q x ≡ true) → (xs : List A) → length (keep p xs) ≤ length (keep q xs)
  keep_fewer p q sub [] = omega arith
  keep_fewer p q sub (x ∷ xs) = go (p x) (q x) (sub x) (keep_fewer p q sub xs)
    where
      go : (a b : Bool) → (a ≡ true → b ≡ true) → length (keep p xs) ≤ length (keep q xs)
          → length (cond a (x ∷ keep p xs) (keep p xs)) ≤ length (cond b (x ∷ keep q xs) (keep q xs))
      go true true f r = omega arith
      go true false f r = clash (f refl) refl
      go false true f r = omega arith
      go false false f r = r

  -- and fewer if one passes the wider test only
  pub keep_less : (p q : A → Bool) → ((x : A) → p x ≡ true → q x ≡ true) → (xs : List A) {x : A} → In x xs → q x ≡ true → p x ≡ false
      → length (keep p xs) < length (keep q xs)
  keep_less p q sub [] i h k = none_in i
  keep_less p q sub (y ∷ ys) {x} i h k =
      ⊎_elim
      (λ e. one (p y) (q y) (sym (ap p e) ∙ k) (sym (ap q e) ∙ h) (keep_fewer p q sub ys))
      (λ j. go (p y) (q y) (sub y) (keep_less p q sub ys j h k)) (uncons i)
    where
      one : (a b : Bool) → a ≡ false → b ≡ true → length (keep p ys) ≤ length (keep q ys)
          → length (cond a (y ∷ keep p ys) (keep p ys)) < length (cond b (y ∷ keep q ys) (keep q ys))
      one true b u v r = clash refl u
      one false true u v r = omega arith
      one false false u v r = clash v refl

      go : (a b : Bool) → (a ≡ true → b ≡ true) → length (keep p ys) < length (keep q ys)
          → length (cond a (y ∷ keep p ys) (keep p ys)) < length (cond b (y ∷ keep q ys) (keep q ys))
      go true true f r = omega arith
      go true false f r = clash (f refl) refl
      go false true f r = omega arith
      go false false f r = r

  -- what passes one of two tests
  keep_or : (p q : A → Bool) (xs : List A) → length (keep (λ x. p x || q x) xs) ≤ length (keep p xs) + length (keep q xs)
  keep_or p q [] = omega arith
  keep_or p q (x ∷ xs) = pick (p x) (q x) (keep_or p q xs)
    where
      pick : (b c : Bool) → length (keep (λ x. p x || q x) xs) ≤ length (keep p xs) + length (keep q xs)
          → length (cond (b || c) (x ∷ keep (λ x. p x || q x) xs) (keep (λ x. p x || q x) xs))
          ≤ length (cond b (x ∷ keep p xs) (keep p xs)) + length (cond c (x ∷ keep q xs) (keep q xs))
      pick true true h = omega arith
      pick true false h = omega arith
      pick false true h = omega arith
      pick false false h = h

  pub or_else_left : {x : A} {xs : List A} (ys : List A) → In x xs → In x (or_else xs ys)
  or_else_left ys here = here
  or_else_left ys (next i) = next i

  pub or_else_cases : {x : A} (xs ys : List A) → In x (or_else xs ys) → In x xs ⊎ In x ys
  or_else_cases [] ys i = inr i
  or_else_cases (z ∷ xs) ys i = inl i

  pub or_else_some : (xs ys : List A) → (x : A) × In x ys → (x : A) × In x (or_else xs ys)
  or_else_some [] ys r = r
  or_else_some (z ∷ xs) ys r = (z, here)

  pub or_else_length : (xs ys : List A) (m : ℕ) → length xs ≤ m → length ys ≤ 1 → length (or_else xs ys) ≤ max 1 m
  or_else_length [] ys m h k = omega arith
  or_else_length (x ∷ xs) ys m h k = omega arith

module _ {A B : Type 0} where
  pub collect_intro : (f : A → List B) {x : A} {xs : List A} {y : B} → In x xs → In y (f x) → In y (collect f xs)
  collect_intro f (here {xs}) j = in_left (collect f xs) j
  collect_intro f (next {x} {xs} i) j = in_right (f x) (collect_intro f i j)

  pub collect_elim : (f : A → List B) (xs : List A) {y : B} → In y (collect f xs) → (x : A) × In x xs × In y (f x)
  collect_elim f [] j = none_in j
  collect_elim f (z ∷ xs) j =
      ⊎_elim (λ k. (z, here, k)) (λ k. let r = collect_elim f xs k in (r.0, next r.1, r.2))
      (in_either (f z) (collect f xs) j)

  pub collect_append : (f : A → List B) (xs ys : List A) → collect f (xs ++ ys) ≡ collect f xs ++ collect f ys
  collect_append f [] ys = refl
  collect_append f (x ∷ xs) ys =
      ap (λ (l : List B). f x ++ l) (collect_append f xs ys) ∙ sym (append_assoc (f x) (collect f xs) (collect f ys))

  pub collect_last : (f : A → List B) (xs : List A) (x : A) → collect f (xs ++ x ∷ []) ≡ collect f xs ++ f x
  collect_last f xs x = collect_append f xs (x ∷ []) ∙ ap (λ (l : List B). collect f xs ++ l) (append-nil (f x))

  -- the function may be changed for one that is the same at the elements
  pub collect_same : (f g : A → List B) (xs : List A) → ((x : A) → In x xs → f x ≡ g x) → collect f xs ≡ collect g xs
  collect_same f g [] h = refl
  collect_same f g (x ∷ xs) h = ap₂ ◌++◌ (h x here) (collect_same f g xs (λ y i. h y (next i)))

  -- lists that are short collect to a list that is
  pub collect_few : (f : A → List B) (c : ℕ) (xs : List A) → ((x : A) → In x xs → length (f x) ≤ c)
      → length (collect f xs) ≤ length xs * c
  collect_few f c [] h = omega arith
  collect_few f c (x ∷ xs) h =
      let z : suc (length xs) * c ≡ c + length xs * c = omega arith in
      omega (arith, length-append (f x) (collect f xs), h x here, collect_few f c xs (λ y i. h y (next i)))

-- what is gathered from gathered lists is gathered list by list
pub collect_collect : {A B C : Type 0} (g : B → List C) (f : A → List B) (xs : List A) → collect g (collect f xs) ≡ collect (λ x. collect g (f x)) xs
collect_collect g f [] = refl
collect_collect {C = C} g f (x ∷ xs) = collect_append g (f x) (collect f xs) ∙ ap (λ (l : List C). collect g (f x) ++ l) (collect_collect g f xs)

-- ---- numbers in rising order

pub from_length : (k n : ℕ) → length (from k n) ≡ n
from_length k zero = refl
from_length k (suc n) = ap suc (from_length (suc k) n)

from_intro : (k n e : ℕ) → k ≤ e → e < k + n → In e (from k n)
from_intro k zero e h l = absurd (omega arith)
from_intro k (suc n) e h l =
    cases (eqb e k) (λ q. at_head (eqb-true e k q))
    (λ q. let d : e ≡ k → ⊥ = eqb-false e k q in next (from_intro (suc k) n e (omega arith) (omega arith)))

pub from_elim : (k n e : ℕ) → In e (from k n) → (k ≤ e) × (e < k + n)
from_elim k zero e i = none_in i
from_elim k (suc n) e i =
    ⊎_elim (λ q. omega arith) (λ j. let r = from_elim (suc k) n e j in omega (arith, r)) (uncons i)

pub map_from : (k n : ℕ) → map suc (from k n) ≡ from (suc k) n
map_from k zero = refl
map_from k (suc n) = ap (λ (l : List ℕ). suc k ∷ l) (map_from (suc k) n)

pub from_append : (k m n : ℕ) → from k (m + n) ≡ from k m ++ from (k + m) n
from_append k zero n =
    let e : zero + n ≡ n = omega arith in
    let f : k ≡ k + zero = omega arith in
    ap₂ from f e
from_append k (suc m) n =
    let e : suc m + n ≡ suc (m + n) = omega arith in
    let f : suc k + m ≡ k + suc m = omega arith in
    ap (from k) e ∙ ap (λ l. k ∷ l) (from_append (suc k) m n ∙ ap (λ j. from (suc k) m ++ from j n) f)

pub below_intro : (n e : ℕ) → e < n → In e (below n)
below_intro n e h = from_intro 0 n e (omega arith) (omega arith)

pub below_elim : (n e : ℕ) → In e (below n) → e < n
below_elim n e i = let r = from_elim 0 n e i in omega (arith, r)

pub elem_intro : (e : ℕ) {xs : List ℕ} → In e xs → elem e xs ≡ true
elem_intro e i = any_intro (eqb e) i (eq-eqb e e refl)

pub elem_elim : (e : ℕ) (xs : List ℕ) → elem e xs ≡ true → In e xs
elem_elim e xs h = let r = any_elim (eqb e) xs h in subst (λ z. In z xs) (sym (eqb-true e r.0 r.2)) r.1

pub elem_collect_last : {A : Type 0} (f : A → List ℕ) (xs : List A) (x : A) (e : ℕ)
    → elem e (collect f (xs ++ x ∷ [])) ≡ (elem e (collect f xs) || elem e (f x))
elem_collect_last f xs x e = ap (elem e) (collect_last f xs x) ∙ any_append (eqb e) (collect f xs) (f x)

-- a number stands once in a rising run
keep_one : (w k n : ℕ) → length (keep (λ e. eqb e w) (from k n)) ≤ 1
keep_one w k zero = omega arith
keep_one w k (suc n) =
    cases (eqb k w)
    (λ q. let rest : keep (λ e. eqb e w) (from (suc k) n) ≡ [] =
    keep_nothing (λ e. eqb e w) (from (suc k) n) (λ e i. other e (from_elim (suc k) n e i).0 (eqb-true k w q)) in
    rw (q, rest) (omega arith))
    (λ q. rw q (keep_one w (suc k) n))
  where
    other : (e : ℕ) → suc k ≤ e → k ≡ w → eqb e w ≡ false
    other e h q = ne_eqb e w (λ r. omega arith)

-- so a rising run has no more of a list's numbers than the list is long
pub keep_elems : (ws : List ℕ) (k n : ℕ) → length (keep (λ e. elem e ws) (from k n)) ≤ length ws
keep_elems [] k n = rw (keep_nothing (λ e. false) (from k n) (λ e i. refl)) (omega arith)
keep_elems (w ∷ ws) k n =
    omega (arith, keep_or (λ e. eqb e w) (λ e. elem e ws) (from k n), keep_one w k n, keep_elems ws k n)
