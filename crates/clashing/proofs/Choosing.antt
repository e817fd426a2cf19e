-- The rules of a set: at each place one or none, so those of a longer list stand behind those of a shorter one, and a map goes over them. Assumes
-- nothing.
use mathlib.Core.Bool.{Bool, true, false, cond}
use mathlib.Core.Path.{◌≡◌, refl, sym, ap}
use mathlib.Core.Logic.{⊎_elim}
use mathlib.Core.List.{List, [], ◌∷◌, ◌++◌, map}
use Prim.Native.Nat.{ℕ, zero, suc, ◌≤◌, ◌<◌}
use native.Mathlib.Omega.{arith}
use lib.ListN.{length, get_or, take, drop, replicate}
use Rattle.lists.specs.Search.{In, next}
use Rattle.lists.proofs.Search.{none_in, uncons, at_head}
use Rattle.clashing.specs.Clash.{chosen}

module _ {A : Type 0} where
  -- none of no rules
  pub chosen_none : (s : List Bool) → chosen {A = A} s [] ≡ []
  chosen_none [] = refl
  chosen_none (b ∷ s) = refl

  -- what is chosen is one of the rules
  pub chosen_in : (s : List Bool) (xs : List A) {x : A} → In x (chosen s xs) → In x xs
  chosen_in [] xs i = none_in i
  chosen_in (b ∷ s) [] i = none_in i
  chosen_in (true ∷ s) (y ∷ xs) i = ⊎_elim (λ e. at_head e) (λ j. next (chosen_in s xs j)) (uncons i)
  chosen_in (false ∷ s) (y ∷ xs) i = next (chosen_in s xs i)

  -- of the first rules, one more
  pub chosen_next : (i : ℕ) (s : List Bool) (xs : List A) (d : A) → i < length s → i < length xs
      → chosen (take (suc i) s) (take (suc i) xs) ≡ chosen (take i s) (take i xs) ++ cond (get_or s i false) (get_or xs i d ∷ []) []
  chosen_next i [] xs d l m = absurd (omega arith)
  chosen_next i (b ∷ s) [] d l m = absurd (omega arith)
  chosen_next zero (true ∷ s) (x ∷ xs) d l m = refl
  chosen_next zero (false ∷ s) (x ∷ xs) d l m = refl
  chosen_next (suc i) (true ∷ s) (x ∷ xs) d l m = ap (λ (r : List A). x ∷ r) (chosen_next i s xs d (omega arith) (omega arith))
  chosen_next (suc i) (false ∷ s) (x ∷ xs) d l m = chosen_next i s xs d (omega arith) (omega arith)

  -- all before a place, and those that are chosen behind it
  pub chosen_behind : (k : ℕ) (s : List Bool) (xs : List A) → chosen (replicate k true ++ false ∷ s) xs ≡ take k xs ++ chosen s (drop (suc k) xs)
  chosen_behind zero s [] = sym (chosen_none s)
  chosen_behind zero s (x ∷ xs) = refl
  chosen_behind (suc k) s [] = sym (chosen_none s)
  chosen_behind (suc k) s (x ∷ xs) = ap (λ (r : List A). x ∷ r) (chosen_behind k s xs)

  -- no more is chosen than there are rules
  pub chosen_short : (s t : List Bool) (xs : List A) → length xs ≤ length s → chosen (s ++ t) xs ≡ chosen s xs
  chosen_short [] t [] l = chosen_none t
  chosen_short [] t (x ∷ xs) l = absurd (omega arith)
  chosen_short (b ∷ s) t [] l = refl
  chosen_short (true ∷ s) t (x ∷ xs) l = ap (λ (r : List A). x ∷ r) (chosen_short s t xs (omega arith))
  chosen_short (false ∷ s) t (x ∷ xs) l = chosen_short s t xs (omega arith)

pub chosen_map : {A B : Type 0} (f : A → B) (s : List Bool) (xs : List A) → map f (chosen s xs) ≡ chosen s (map f xs)
chosen_map f [] xs = refl
chosen_map f (b ∷ s) [] = refl
chosen_map {B = B} f (true ∷ s) (x ∷ xs) = ap (λ (r : List B). f x ∷ r) (chosen_map f s xs)
chosen_map f (false ∷ s) (x ∷ xs) = chosen_map f s xs
