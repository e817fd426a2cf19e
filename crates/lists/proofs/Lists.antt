-- Lists read at a place, stored at a place, cut at a place, begun in two ways, mapped, and filled up with one value: each law by
-- recursion on the list, or from the library's. Assumes nothing.
use mathlib.Core.Bool.{Bool, cond}
use mathlib.Core.Path.{◌≡◌, refl, sym, ap, ap₂, ◌∙◌}
use mathlib.Core.List.{List, [], ◌∷◌, ◌++◌, map, head-eq_of_cons-eq, tail-eq_of_cons-eq, nil≢cons, map-eq-nil_iff, tail}
use Prim.Native.Nat.{ℕ, zero, suc, ◌+◌, ◌-◌, ◌≤◌, ◌<◌}
use native.Mathlib.Omega.{arith}
use native.Mathlib.Numerals.{add-one}
use lib.Dec.{eqb}
use lib.ListN.{length, take, drop, get_or, set, replicate, length-map, get_or-map, get_or-append}
use lib.Seq.{sets, drop-cons, take-suc, append_snoc, set_at, get_or-set_same, get_or-set_other}
use borrow.Author.Tests.{eqb-true, eqb-false}
use Rattle.lists.proofs.Truth.{cases}
use Rattle.lists.specs.Search.{In, here, next}

-- the rest from a place on: its element and the rest from the next
pub rest : {A : Type 0} (s : List A) (i : ℕ) (d : A) → i < length s → drop i s ≡ get_or s i d ∷ drop (i + 1) s
rest s i d h = rw (add-one, drop-cons s i d)

-- the first i elements, and one more
pub take_next : {A : Type 0} (s : List A) (i : ℕ) (d : A) → i < length s → take (i + 1) s ≡ take i s ++ get_or s i d ∷ []
take_next s i d h = rw (add-one, take-suc s i d)

pub tail_drop : {A : Type 0} (xs : List A) (p : ℕ) → tail (drop p xs) ≡ drop (suc p) xs
tail_drop [] zero = refl
tail_drop [] (suc p) = refl
tail_drop (x ∷ xs) zero = refl
tail_drop (x ∷ xs) (suc p) = tail_drop xs p

pub default_unread : {A : Type 0} (l : List A) (i : ℕ) (d e : A) → i < length l → get_or l i d ≡ get_or l i e
default_unread [] i d e h = absurd (omega arith)
default_unread (x ∷ l) zero d e h = refl
default_unread (x ∷ l) (suc i) d e h = default_unread l i d e (omega arith)

module _ {A B : Type 0} (f : A → B) where
  pub map_at : (l : List A) (i : ℕ) (d : A) (e : B) → i < length l → get_or (map f l) i e ≡ f (get_or l i d)
  map_at l i d e h = default_unread (map f l) i e (f d) (rw (length-map l f) h) ∙ get_or-map f l i d

  pub map_before : (l : List A) (more : List B) (i : ℕ) (d : A) (e : B) → i < length l → get_or (map f l ++ more) i e ≡ f (get_or l i d)
  map_before l more i d e h = get_or-append (map f l) more e i (simp length-map h) ∙ map_at l i d e h

  pub map_take : (n : ℕ) (l : List A) → map f (take n l) ≡ take n (map f l)
  map_take zero l = refl
  map_take (suc n) [] = refl
  map_take (suc n) (x ∷ l) = ap {B = List B} (λ r. f x ∷ r) (map_take n l)

  pub map_drop : (n : ℕ) (l : List A) → map f (drop n l) ≡ drop n (map f l)
  map_drop zero l = refl
  map_drop (suc n) [] = refl
  map_drop (suc n) (x ∷ l) = map_drop n l

  -- the first elements are skipped
  pub map_skip : (a b c : List A) (d : B) → get_or (map f (a ++ b)) (length (a ++ c)) d ≡ get_or (map f b) (length c) d
  map_skip [] b c d = refl
  map_skip (x ∷ a) b c d = map_skip a b c d

-- of two beginnings of one list the shorter begins the longer
pub prefix : {A : Type 0} (p a q b : List A) → p ++ a ≡ q ++ b → length p ≤ length q → (m : List A) × (p ++ m ≡ q) × (a ≡ m ++ b)
prefix [] a q b e h = (q, refl, e)
prefix (x ∷ p) a [] b e h = absurd (omega arith)
prefix (x ∷ p) a (y ∷ q) b e h =
    let r = prefix p a q b (tail-eq_of_cons-eq e) (omega arith) in
    (r.0, ap₂ ◌∷◌ (head-eq_of_cons-eq e) r.1, r.2)

module _ {A B : Type 0} where
  -- what is mapped to one element is one element
  pub map_one : (f : A → B) (xs : List A) (y : B) → map f xs ≡ y ∷ [] → (x : A) × (xs ≡ x ∷ []) × (y ≡ f x)
  map_one f [] y e = absurd (nil≢cons e)
  map_one f (x ∷ xs) y e =
      (x, ap (λ l. x ∷ l) ((map-eq-nil_iff f).0 (tail-eq_of_cons-eq e)), sym (head-eq_of_cons-eq e))

  -- functions that are equal over a list are equal at each of its elements
  pub map_same : (f g : A → B) {x : A} {xs : List A} → In x xs → map f xs ≡ map g xs → f x ≡ g x
  map_same f g here e = head-eq_of_cons-eq e
  map_same f g (next i) e = map_same f g i (tail-eq_of_cons-eq e)

-- functions that agree on a list have the same values on it
pub map_agree : {A B : Type 0} (f g : A → B) (xs : List A) → ((x : A) → In x xs → f x ≡ g x) → map f xs ≡ map g xs
map_agree f g [] e = refl
map_agree f g (x ∷ xs) e = ap₂ ◌∷◌ (e x here) (map_agree f g xs (λ y i. e y (next i)))

-- one value everywhere, and another past the end
pub repeated_at : {A : Type 0} (P : A → Type 0) {a d : A} → P a → P d → (n i : ℕ) → P (get_or (replicate n a) i d)
repeated_at P h k zero i = k
repeated_at P h k (suc n) zero = h
repeated_at P h k (suc n) (suc i) = repeated_at P h k n i

-- one value behind a list, k times: what is stored at the first of its places makes the list longer
pub set_behind : {A : Type 0} (l : List A) (z a : A) (k n : ℕ) → length l ≡ n → 0 < k → set (l ++ replicate k z) n a ≡ l ++ a ∷ [] ++ replicate (k - 1) z
set_behind l z a k n e h =
    let f : k ≡ suc (k - 1) = omega arith in
    ap (λ (j : ℕ). set (l ++ replicate j z) n a) f ∙ set_at l z (replicate (k - 1) z) a n e ∙ sym (append_snoc l a (replicate (k - 1) z))

-- one place stored: at its own place the value is found, elsewhere what stood there
module _ {A : Type 0} (xs : List A) (n : ℕ) (a d : A) (h : n < length xs) where
  pub stored : (i : ℕ) → get_or (set xs n a) i d ≡ cond (eqb i n) a (get_or xs i d)
  stored i =
      cases (eqb i n)
      (λ e. ap (λ (j : ℕ). get_or (set xs n a) j d) (eqb-true i n e) ∙ get_or-set_same xs n a d h ∙ sym (ap (λ (b : Bool). cond b a (get_or xs i d)) e))
      (λ e. get_or-set_other xs n i a d (eqb-false i n e) ∙ sym (ap (λ (b : Bool). cond b a (get_or xs i d)) e))

-- one value more behind those that are stored
pub sets_more : {A : Type 0} (ws : List A) (from : ℕ) (v : A) (buf : List A) (end : ℕ) → end ≡ from + length ws
    → set (sets buf from ws) end v ≡ sets buf from (ws ++ v ∷ [])
sets_more [] from v buf end e = let z : end ≡ from = omega arith in ap (λ (k : ℕ). set buf k v) z
sets_more (w ∷ ws) from v buf end e = sets_more ws (suc from) v (set buf from w) end (omega arith)
