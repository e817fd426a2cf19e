-- What is meant, and what is computed: search in a list: some, every, the first, and the numbers below n in rising order. What stands after
-- the element that decides is not computed. Assumes nothing.
use Rattle.std.specs.Prelude.{Bool, true, false, ◌&&◌, ◌||◌, cond, List, [], ◌∷◌, ◌++◌, ℕ, zero, suc, eqb}

module _ {A : Type 0} where
  -- a is one of the list's elements
  pub data In (a : A) : List A → Type 0 where
    here : {xs : List A} → In a (a ∷ xs)
    next : {x : A} {xs : List A} → In a xs → In a (x ∷ xs)

  -- some element passes
  abbrev pub any : (A → Bool) → List A → Bool
  any p [] = false
  any p (x ∷ xs) = let r = any p xs in p x || r

  -- every element passes
  abbrev pub all : (A → Bool) → List A → Bool
  all p [] = true
  all p (x ∷ xs) = let r = all p xs in p x && r

  -- the first element that passes, as a list of one; the empty list where none does
  abbrev pub first : (A → Bool) → List A → List A
  first p [] = []
  first p (x ∷ xs) = let r = first p xs in cond (p x) (x ∷ []) r

  -- those that pass, in their order
  abbrev pub keep : (A → Bool) → List A → List A
  keep p [] = []
  keep p (x ∷ xs) = let r = keep p xs in cond (p x) (x ∷ r) r

  -- the first list, or the second where the first is empty
  abbrev pub or_else : List A → List A → List A
  or_else [] ys = ys
  or_else (x ∷ xs) ys = x ∷ xs

module _ {A B : Type 0} where
  -- the lists that f gives, one after the other
  abbrev pub collect : (A → List B) → List A → List B
  collect f [] = []
  collect f (x ∷ xs) = f x ++ collect f xs

-- n numbers in rising order, k the first
abbrev pub from : ℕ → ℕ → List ℕ
from k zero = []
from k (suc n) = k ∷ from (suc k) n

-- the numbers below n
abbrev pub below : ℕ → List ℕ
below n = from 0 n

-- e is one of the numbers
abbrev pub elem : ℕ → List ℕ → Bool
elem e xs = any (eqb e) xs
