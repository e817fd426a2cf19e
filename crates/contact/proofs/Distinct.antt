-- Each different element once, at its first place, by any test of sameness that is an equivalence. They are found by putting one after the
-- other last where it is not there yet; a place in a list does not change when the list grows at its end; a part of a list has no more of
-- them; and other elements in the places of the elements, the same exactly where these are, have the same places. Assumes nothing.
use mathlib.Core.Bool.{Bool, true, false, not, ◌||◌, cond}
use mathlib.Core.Path.{◌≡◌, refl, sym, ap, ap₂, subst, ◌∙◌}
use mathlib.Core.Logic.{⊎_elim, ◌↔◌}
use mathlib.Core.List.{List, [], ◌∷◌, ◌++◌, map, map-map, foldl, append_assoc, append-nil}
use mathlib.Mathlib.Data.Bool.Basic.{eq-false_of_not-eq-true}
use Prim.Native.Nat.{ℕ, suc, ◌≤◌, ◌<◌}
use native.Mathlib.Omega.{arith}
use lib.ListN.{length, get_or, length-append}
use borrow.Author.Tests.{not-true}
use Rattle.lists.specs.Search.{In, here, next, keep, below}
use Rattle.lists.proofs.Lists.{map_agree}
use Rattle.lists.proofs.Search.{none_in, uncons, at_head, any_intro, any_elim, in_right, keep_elim, keep_append, keep_shorter, map_from}
use Rattle.lists.proofs.Truth.{clash, cases, of_cond}
use Rattle.contact.specs.Numbering.{distinct, position, IsFirst}
use Rattle.contact.specs.Putting.{is_in, put}

-- a test that is an equivalence: what is the same is the same as the same elements
pub record Alike {N : Type 0} (same : N → N → Bool) : Type 0 where
  pub self : (x : N) → same x x ≡ true
  pub alike : (x y : N) → same x y ≡ true → (z : N) → same x z ≡ same y z

-- a test that decides equality
abbrev pub Decides : {N : Type 0} → (N → N → Bool) → Type 0
Decides {N} same = (x y : N) → (same x y ≡ true) ↔ (x ≡ y)

pub decides_alike : {N : Type 0} (same : N → N → Bool) → Decides same → Alike same
decides_alike same decides =
    record { self = λ x. (decides x x).1 refl; alike = λ x y h z. ap (λ (w : _). same w z) ((decides x y).0 h) }

-- the distinct elements of a list are elements of it
pub from_distinct : {N : Type 0} (same : N → N → Bool) (xs : List N) {w : N} → In w (distinct same xs) → In w xs
from_distinct same [] i = i
from_distinct same (x ∷ xs) i =
    ⊎_elim (λ e. at_head e) (λ j. next (from_distinct same xs (keep_elim (λ y. not (same x y)) (distinct same xs) j).0)) (uncons i)

module _ {N : Type 0} (same : N → N → Bool) where
  -- ---- places

  pub position_in : (ks : List N) (w : N) → is_in same ks w ≡ true → position same ks w < length ks
  position_in [] w h = clash h refl
  position_in (k ∷ ks) w h = go (same k w) h (position_in ks w)
    where
      go : (b : Bool) → (b || is_in same ks w) ≡ true → (is_in same ks w ≡ true → position same ks w < length ks) → cond b 0 (suc (position same ks w)) < suc (length ks)
      go true e f = omega arith
      go false e f = omega (arith, f e)

  pub position_out : (ks : List N) (w : N) → is_in same ks w ≡ false → position same ks w ≡ length ks
  position_out [] w h = refl
  position_out (k ∷ ks) w h = go (same k w) h (position_out ks w)
    where
      go : (b : Bool) → (b || is_in same ks w) ≡ false → (is_in same ks w ≡ false → position same ks w ≡ length ks) → cond b 0 (suc (position same ks w)) ≡ suc (length ks)
      go true e f = clash refl e
      go false e f = ap suc (f e)

  pub position_most : (ks : List N) (w : N) → position same ks w ≤ length ks
  position_most ks w = cases (is_in same ks w) (λ e. omega (arith, position_in ks w e)) (λ e. omega (arith, position_out ks w e))

  -- the element at its place is the same
  pub position_same : (d : N) (ks : List N) (w : N) → is_in same ks w ≡ true → same (get_or ks (position same ks w) d) w ≡ true
  position_same d [] w h = clash h refl
  position_same d (k ∷ ks) w h = go (same k w) refl h (position_same d ks w)
    where
      go : (b : Bool) → same k w ≡ b → (b || is_in same ks w) ≡ true → (is_in same ks w ≡ true → same (get_or ks (position same ks w) d) w ≡ true)
          → same (get_or (k ∷ ks) (cond b 0 (suc (position same ks w))) d) w ≡ true
      go true q e f = q
      go false q e f = f e

  position_stays : (ks more : List N) (w : N) → is_in same ks w ≡ true → position same (ks ++ more) w ≡ position same ks w
  position_stays [] more w h = clash h refl
  position_stays (k ∷ ks) more w h = go (same k w) h (position_stays ks more w)
    where
      go : (b : Bool) → (b || is_in same ks w) ≡ true → (is_in same ks w ≡ true → position same (ks ++ more) w ≡ position same ks w)
          → cond b 0 (suc (position same (ks ++ more) w)) ≡ cond b 0 (suc (position same ks w))
      go true e f = refl
      go false e f = ap suc (f e)

  -- ---- the list grows at its end

  put_grows : (ks : List N) (w : N) → (more : List N) × (put same ks w ≡ ks ++ more)
  put_grows ks w = go (is_in same ks w)
    where
      go : (b : Bool) → (more : List N) × (cond b ks (ks ++ w ∷ []) ≡ ks ++ more)
      go true = ([], sym (append-nil ks))
      go false = (w ∷ [], refl)

  put_all_grows : (ks ws : List N) → (more : List N) × (foldl (put same) ks ws ≡ ks ++ more)
  put_all_grows ks [] = ([], sym (append-nil ks))
  put_all_grows ks (w ∷ ws) =
      let p = put_grows ks w in
      let r = put_all_grows (put same ks w) ws in
      (p.0 ++ r.0, r.1 ∙ ap (λ (l : List N). l ++ r.0) p.1 ∙ append_assoc ks p.0 r.0)

  pub put_all_longer : (ks ws : List N) → length ks ≤ length (foldl (put same) ks ws)
  put_all_longer ks ws = let r = put_all_grows ks ws in omega (arith, ap length r.1, length-append ks r.0)

  -- ---- distinct elements

  module _ (is : Alike same) where
    -- an element is there once it is put
    put_in : (ks : List N) (w : N) → is_in same (put same ks w) w ≡ true
    put_in ks w = go (is_in same ks w) refl
      where
        go : (b : Bool) → is_in same ks w ≡ b → is_in same (cond b ks (ks ++ w ∷ [])) w ≡ true
        go true e = e
        go false e = any_intro (λ k. same k w) (in_right ks here) (is.self w)

    put_position : (ks : List N) (w : N) → position same (put same ks w) w ≡ position same ks w
    put_position ks w = go (is_in same ks w) refl
      where
        last : (ls : List N) → is_in same ls w ≡ false → position same (ls ++ w ∷ []) w ≡ length ls
        last [] e = rw (is.self w)
        last (l ∷ ls) e = turn (same l w) e (last ls)
          where
            turn : (b : Bool) → (b || is_in same ls w) ≡ false → (is_in same ls w ≡ false → position same (ls ++ w ∷ []) w ≡ length ls)
                → cond b 0 (suc (position same (ls ++ w ∷ []) w)) ≡ suc (length ls)
            turn true f g = clash refl f
            turn false f g = ap suc (g f)

        go : (b : Bool) → is_in same ks w ≡ b → position same (cond b ks (ks ++ w ∷ [])) w ≡ position same ks w
        go true e = refl
        go false e = last ks e ∙ sym (position_out ks w e)

    -- the number that an element gets is its place in the list of all
    pub put_all_position : (ks ws : List N) (w : N) → position same (foldl (put same) ks (w ∷ ws)) w ≡ position same ks w
    put_all_position ks ws w =
        let r = put_all_grows (put same ks w) ws in
        ap (λ (l : List N). position same l w) r.1 ∙ position_stays (put same ks w) r.0 w (put_in ks w) ∙ put_position ks w

    -- what is not the same as x is where it was when those that are the same as x are taken out
    in_kept : (x w : N) (ks : List N) → same x w ≡ false → is_in same (keep (λ y. not (same x y)) ks) w ≡ is_in same ks w
    in_kept x w [] h = refl
    in_kept x w (k ∷ ks) h = go (same x k) refl (in_kept x w ks h)
      where
        go : (b : Bool) → same x k ≡ b → is_in same (keep (λ y. not (same x y)) ks) w ≡ is_in same ks w
            → is_in same (cond (not b) (k ∷ keep (λ y. not (same x y)) ks) (keep (λ y. not (same x y)) ks)) w ≡ (same k w || is_in same ks w)
        go true e f = f ∙ ap (λ (t : Bool). t || is_in same ks w) (sym (sym (is.alike x k e w) ∙ h))
        go false e f = ap (λ (t : Bool). same k w || t) f

    -- putting an element last, and taking out what is the same as x behind x
    put_kept : (x w : N) (ks : List N) → x ∷ keep (λ y. not (same x y)) (put same ks w) ≡ put same (x ∷ keep (λ y. not (same x y)) ks) w
    put_kept x w ks = cases (same x w) there apart
      where
        p : N → Bool
        p y = not (same x y)

        -- w is x
        out : (b : Bool) → same x w ≡ true → keep p (cond b ks (ks ++ w ∷ [])) ≡ keep p ks
        out true e = refl
        out false e = keep_append p ks (w ∷ []) ∙ ap (λ (t : Bool). keep p ks ++ cond (not t) (w ∷ []) []) e ∙ append-nil (keep p ks)

        there : same x w ≡ true → x ∷ keep p (put same ks w) ≡ put same (x ∷ keep p ks) w
        there e =
            ap (λ (l : List N). x ∷ l) (out (is_in same ks w) e)
            ∙ sym (ap (λ (t : Bool). cond (t || is_in same (keep p ks) w) (x ∷ keep p ks) ((x ∷ keep p ks) ++ w ∷ [])) e)

        -- w is another
        on : (b : Bool) → same x w ≡ false → x ∷ keep p (cond b ks (ks ++ w ∷ [])) ≡ cond b (x ∷ keep p ks) ((x ∷ keep p ks) ++ w ∷ [])
        on true e = refl
        on false e = ap (λ (l : List N). x ∷ l) (keep_append p ks (w ∷ []) ∙ ap (λ (t : Bool). keep p ks ++ cond (not t) (w ∷ []) []) e)

        apart : same x w ≡ false → x ∷ keep p (put same ks w) ≡ put same (x ∷ keep p ks) w
        apart e =
            on (is_in same ks w) e
            ∙ sym (ap (λ (t : Bool). cond (t || is_in same (keep p ks) w) (x ∷ keep p ks) ((x ∷ keep p ks) ++ w ∷ [])) e
            ∙ ap (λ (t : Bool). cond t (x ∷ keep p ks) ((x ∷ keep p ks) ++ w ∷ [])) (in_kept x w ks e))

    distinct_last : (xs : List N) (w : N) → distinct same (xs ++ w ∷ []) ≡ put same (distinct same xs) w
    distinct_last [] w = refl
    distinct_last (x ∷ xs) w = ap (λ (l : List N). x ∷ keep (λ y. not (same x y)) l) (distinct_last xs w) ∙ put_kept x w (distinct same xs)

    -- the distinct elements of a list and more
    pub distinct_append : (xs ws : List N) → distinct same (xs ++ ws) ≡ foldl (put same) (distinct same xs) ws
    distinct_append xs [] = ap (distinct same) (append-nil xs)
    distinct_append xs (w ∷ ws) =
        ap (distinct same) (sym (append_assoc xs (w ∷ []) ws))
        ∙ distinct_append (xs ++ w ∷ []) ws
        ∙ ap (λ (l : List N). foldl (put same) l ws) (distinct_last xs w)

    distinct_grows : (xs ws : List N) → (more : List N) × (distinct same (xs ++ ws) ≡ distinct same xs ++ more)
    distinct_grows xs ws =
        let r = put_all_grows (distinct same xs) ws in
        (r.0, distinct_append xs ws ∙ r.1)

    -- an element of the list, or one that is the same, stands among the distinct ones
    pub in_distinct : (xs : List N) (w : N) → In w xs → is_in same (distinct same xs) w ≡ true
    in_distinct [] w i = none_in i
    in_distinct (x ∷ xs) w i =
        cases (same x w) (λ h. ap (λ (b : Bool). b || is_in same (keep (λ z. not (same x z)) (distinct same xs)) w) h)
        (λ h. ⊎_elim (λ e. clash (ap (same x) e ∙ is.self x) h)
        (λ j. in_kept_head x w (distinct same xs) h (in_distinct xs w j)) (uncons i))
      where
        in_kept_head : (y v : N) (ks : List N) → same y v ≡ false → is_in same ks v ≡ true → is_in same (y ∷ keep (λ z. not (same y z)) ks) v ≡ true
        in_kept_head y v ks h g = ap₂ ◌||◌ h (in_kept y v ks h ∙ g)

    pub position_distinct : (xs ws : List N) (w : N) → In w xs → position same (distinct same (xs ++ ws)) w ≡ position same (distinct same xs) w
    position_distinct xs ws w i =
        let r = distinct_grows xs ws in
        ap (λ (l : List N). position same l w) r.1 ∙ position_stays (distinct same xs) r.0 w (in_distinct xs w i)

    -- the test may be read from right to left
    turned : (x y : N) → same x y ≡ true → same y x ≡ true
    turned x y h = sym (is.alike x y h x) ∙ is.self x

    either_way : (k x y : N) → same x y ≡ true → same k x ≡ same k y
    either_way k x y h =
        cases (same k x) (λ e. e ∙ sym (is.alike k x e y ∙ h))
        (λ e. cases (same k y) (λ f. clash (is.alike k y f x ∙ turned x y h) e) (λ f. e ∙ sym f))

    -- what is the same has the same place
    pub position_alike : (ks : List N) (x y : N) → same x y ≡ true → position same ks x ≡ position same ks y
    position_alike [] x y h = refl
    position_alike (k ∷ ks) x y h =
        ap₂ (λ (b : Bool) (n : ℕ). cond b 0 (suc n)) (either_way k x y h) (position_alike ks x y h)

    -- ---- the first of those that are the same

    -- the element at the place of w stays where those are taken out that are the same as x, which w is not
    kept_place : (d x w : N) (ks : List N) → same x w ≡ false
        → get_or (keep (λ y. not (same x y)) ks) (position same (keep (λ y. not (same x y)) ks) w) d ≡ get_or ks (position same ks w) d
    kept_place d x w [] h = refl
    kept_place d x w (k ∷ ks) h = go (same x k) refl (same k w) refl (kept_place d x w ks h)
      where
        kept : List N
        kept = keep (λ y. not (same x y)) ks

        go : (b : Bool) → same x k ≡ b → (c : Bool) → same k w ≡ c → get_or kept (position same kept w) d ≡ get_or ks (position same ks w) d
            → get_or (cond (not b) (k ∷ kept) kept) (position same (cond (not b) (k ∷ kept) kept) w) d ≡ get_or (k ∷ ks) (cond c 0 (suc (position same ks w))) d
        go true e true f r = clash f (sym (is.alike x k e w) ∙ h)
        go true e false f r = r
        go false e true f r = ap (λ (c : Bool). get_or (k ∷ kept) (cond c 0 (suc (position same kept w))) d) f
        go false e false f r = ap (λ (c : Bool). get_or (k ∷ kept) (cond c 0 (suc (position same kept w))) d) f ∙ r

    -- the distinct element at an element's place stands first of those that are the same
    pub first_of : (d : N) (xs : List N) (w : N) → In w xs → IsFirst same xs w (get_or (distinct same xs) (position same (distinct same xs) w) d)
    first_of d [] w i = none_in i
    first_of d (x ∷ xs) w i = go (same x w) refl (first_of d xs w)
      where
        kept : List N
        kept = keep (λ y. not (same x y)) (distinct same xs)

        go : (b : Bool) → same x w ≡ b → (In w xs → IsFirst same xs w (get_or (distinct same xs) (position same (distinct same xs) w) d))
            → IsFirst same (x ∷ xs) w (get_or (x ∷ kept) (cond b 0 (suc (position same kept w))) d)
        go true h r = record { before = []; after = xs; stands = refl; is_same = h; none_before = λ y j. none_in j }
        go false h r =
            let f = r (⊎_elim (λ e. clash (ap (same x) e ∙ is.self x) h) (λ j. j) (uncons i)) in
            subst (IsFirst same (x ∷ xs) w) (sym (kept_place d x w (distinct same xs) h))
            (record {
              before = x ∷ f.before;
              after = f.after;
              stands = ap (λ (l : List N). x ∷ l) f.stands;
              is_same = f.is_same;
              none_before = λ y j. ⊎_elim (λ e. ap (λ (z : N). same z w) e ∙ h) (λ k. f.none_before y k) (uncons j);
            })

    -- ---- how many they are

    -- nothing in the list is the same as something before it
    abbrev Unlike : List N → Type 0
    Unlike [] = Unit {0}
    Unlike (x ∷ xs) = ((y : N) → In y xs → same x y ≡ false) × Unlike xs

    unlike_kept : (p : N → Bool) (xs : List N) → Unlike xs → Unlike (keep p xs)
    unlike_kept p [] u = tt
    unlike_kept p (x ∷ xs) u = go (p x) (unlike_kept p xs u.1)
      where
        go : (b : Bool) → Unlike (keep p xs) → Unlike (cond b (x ∷ keep p xs) (keep p xs))
        go true r = (λ y i. u.0 y (keep_elim p xs i).0, r)
        go false r = r

    distinct_unlike : (xs : List N) → Unlike (distinct same xs)
    distinct_unlike [] = tt
    distinct_unlike (x ∷ xs) = (
      λ y i. not-true (same x y) (keep_elim (λ z. not (same x z)) (distinct same xs) i).1,
      unlike_kept (λ y. not (same x y)) (distinct same xs) (distinct_unlike xs),
    )

    -- those that are the same as one that is there are one at least
    kept_fewer : (x : N) (ks : List N) → is_in same ks x ≡ true → length (keep (λ y. not (same x y)) ks) < length ks
    kept_fewer x [] h = clash h refl
    kept_fewer x (k ∷ ks) h =
        go (same x k) refl (keep_shorter (λ y. not (same x y)) ks) (λ e. kept_fewer x ks (ap (λ (b : Bool). b || is_in same ks x) (sym (apart e)) ∙ h))
      where
        apart : same x k ≡ false → same k x ≡ false
        apart e = eq-false_of_not-eq-true (λ f. clash (turned k x f) e)

        go : (b : Bool) → same x k ≡ b → length (keep (λ y. not (same x y)) ks) ≤ length ks
            → (same x k ≡ false → length (keep (λ y. not (same x y)) ks) < length ks)
            → length (cond (not b) (k ∷ keep (λ y. not (same x y)) ks) (keep (λ y. not (same x y)) ks)) < suc (length ks)
        go true e l f = omega arith
        go false e l f = omega (arith, f e)

    unlike_fits : (xs ys : List N) → Unlike xs → ((z : N) → In z xs → is_in same ys z ≡ true) → length xs ≤ length ys
    unlike_fits [] ys u s = omega arith
    unlike_fits (x ∷ xs) ys u s =
        omega (
          arith,
          kept_fewer x ys (s x here),
          unlike_fits xs (keep (λ y. not (same x y)) ys) u.1 (λ z i. in_kept x z ys (u.0 z i) ∙ s z (next i)),
        )

    -- elements that are all among others have no more distinct ones
    pub distinct_fewer : (xs ys : List N) → ((z : N) → In z xs → In z ys) → length (distinct same xs) ≤ length (distinct same ys)
    distinct_fewer xs ys s =
        unlike_fits (distinct same xs) (distinct same ys) (distinct_unlike xs) (λ z i. in_distinct ys z (s z (from_distinct same xs i)))

    -- ---- in their order

    -- those of a list in which nothing is the same as something before it stand at 0, 1, 2 and so on
    unlike_places : (ks : List N) → Unlike ks → map (position same ks) ks ≡ below (length ks)
    unlike_places [] u = refl
    unlike_places (k ∷ ks) u =
        ap₂ ◌∷◌ (ap (λ (b : Bool). cond b 0 (suc (position same ks k))) (is.self k))
        (map_agree (position same (k ∷ ks)) (λ y. suc (position same ks y)) ks (λ y i. ap (λ (b : Bool). cond b 0 (suc (position same ks y))) (u.0 y i))
        ∙ sym (map-map suc (position same ks) ks) ∙ ap (map suc) (unlike_places ks u.1) ∙ map_from 0 (length ks))

    pub distinct_places : (xs : List N) → map (position same (distinct same xs)) (distinct same xs) ≡ below (length (distinct same xs))
    distinct_places xs = unlike_places (distinct same xs) (distinct_unlike xs)

module _ {N : Type 0} (same : N → N → Bool) (decides : Decides same) where
  -- where the test decides equality, what stands among the distinct elements is an element itself
  pub distinct_in_list : (xs : List N) (w : N) → is_in same (distinct same xs) w ≡ true → In w xs
  distinct_in_list xs w h =
      let r = any_elim (λ k. same k w) (distinct same xs) h in
      from_distinct same xs (subst (λ (k : N). In k (distinct same xs)) ((decides r.0 w).0 r.2) r.1)

-- ---- other elements in the places of the elements

module _ {N M : Type 0} (same : N → N → Bool) (other : M → M → Bool) (g : N → M) where
  keep_map : (x : N) (ys : List N) → ((y : N) → In y ys → other (g x) (g y) ≡ same x y)
      → keep (λ z. not (other (g x) z)) (map g ys) ≡ map g (keep (λ y. not (same x y)) ys)
  keep_map x [] h = refl
  keep_map x (y ∷ ys) h =
      ap₂ (λ (b : Bool) (l : List M). cond (not b) (g y ∷ l) l) (h y here) (keep_map x ys (λ z i. h z (next i)))
      ∙ of_cond (map g) (not (same x y)) (y ∷ keep (λ z. not (same x z)) ys) (keep (λ z. not (same x z)) ys)

  pub distinct_map : (xs : List N) → ((x y : N) → In x xs → In y xs → other (g x) (g y) ≡ same x y) → distinct other (map g xs) ≡ map g (distinct same xs)
  distinct_map [] h = refl
  distinct_map (x ∷ xs) h =
      ap (λ (l : List M). g x ∷ l)
      (ap (keep (λ z. not (other (g x) z))) (distinct_map xs (λ y z i j. h y z (next i) (next j)))
      ∙ keep_map x (distinct same xs) (λ y i. h x y here (next (from_distinct same xs i))))

  pub position_map : (ks : List N) (w : N) → ((k : N) → In k ks → other (g k) (g w) ≡ same k w) → position other (map g ks) (g w) ≡ position same ks w
  position_map [] w h = refl
  position_map (k ∷ ks) w h =
      ap₂ (λ (b : Bool) (n : ℕ). cond b 0 (suc n)) (h k here) (position_map ks w (λ l i. h l (next i)))
