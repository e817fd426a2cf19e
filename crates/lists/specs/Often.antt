-- What is meant: how often an element stands in a list, and two lists in which each stands equally often. No order and no algorithm. Assumes
-- nothing.
use Rattle.std.specs.Prelude.{◌≡◌, ◌↔◌, List, [], ◌∷◌, ℕ, suc}

module _ {A : Type 0} where
  -- x stands n times in the list
  pub data Times (x : A) : List A → ℕ → Type 0 where
    none : Times x [] 0
    again : {xs : List A} {n : ℕ} → Times x xs n → Times x (x ∷ xs) (suc n)
    other : {y : A} {xs : List A} {n : ℕ} → (x ≡ y → ⊥) → Times x xs n → Times x (y ∷ xs) n

  -- whatever stands n times in one of them stands n times in the other
  abbrev pub EquallyOften : List A → List A → Type 0
  EquallyOften xs ys = (x : A) (n : ℕ) → Times x xs n ↔ Times x ys n
