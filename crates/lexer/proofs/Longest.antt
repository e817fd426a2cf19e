-- The computed longest spelling is the meant one, by induction on the list: a spelling more is longer than the longest of the others or
-- not. Assumes nothing.
use mathlib.Core.Path.{◌≡◌, refl, sym, subst}
use mathlib.Core.Bool.{Bool, true, false, cond}
use mathlib.Core.List.{List, [], ◌∷◌, Memᴰ}
use Prim.Native.Nat.{ℕ, ◌≤◌}
use native.Mathlib.Omega.{arith}
use lib.Dec.{ltb}
use lib.ListN.{length}
use borrow.Author.Tests.{ltb-true, ltb-false}
use Rattle.lists.proofs.Truth.{clash}
use Rattle.lexer.specs.Spelling.{Spelling, starts}
use Rattle.lexer.specs.Cutting.{Match, nothing, match, Every, Longest}
use Rattle.lexer.specs.Cutter.{longer, longest}

-- what holds of every spelling of a list holds of each
pub every_at : {x : Spelling} {xs : List Spelling} → Memᴰ x xs → (P : Spelling → Type 0) → Every P xs → P x
every_at (Memᴰ.head e) P h = subst P (sym e) h.0
every_at (Memᴰ.tail m) P h = every_at m P h.1

module _ (s : List ℕ) where
  all_none : (xs : List Spelling) (n : ℕ) → Every (λ (y : Spelling). starts y.bytes s ≡ false) xs → Every (λ (y : Spelling). starts y.bytes s ≡ true → length y.bytes ≤ n) xs
  all_none [] n h = tt
  all_none (y ∷ xs) n h = (λ e. clash e h.0, all_none xs n h.1)

  all_more : (xs : List Spelling) (m n : ℕ) → m ≤ n → Every (λ (y : Spelling). starts y.bytes s ≡ true → length y.bytes ≤ m) xs → Every (λ (y : Spelling). starts y.bytes s ≡ true → length y.bytes ≤ n) xs
  all_more [] m n l h = tt
  all_more (y ∷ xs) m n l h = (λ e. omega (arith, h.0 e), all_more xs m n l h.1)

  add : (x : Spelling) (xs : List Spelling) (m : Match) → starts x.bytes s ≡ true → Longest xs s m → Longest (x ∷ xs) s (longer x m)
  add x xs nothing e h = (Memᴰ.head refl, e, (λ _. omega arith, all_none xs (length x.bytes) h))
  add x xs (match y) e h = go (ltb (length x.bytes) (length y.bytes)) refl
    where
      go : (t : Bool) → ltb (length x.bytes) (length y.bytes) ≡ t → Longest (x ∷ xs) s (cond t (match y) (match x))
      go true f = let l = ltb-true (length x.bytes) (length y.bytes) f in (Memᴰ.tail h.0, h.1, (λ _. omega (arith, l), h.2))
      go false f =
          let l = ltb-false (length x.bytes) (length y.bytes) f in
          (Memᴰ.head refl, e, (λ _. omega arith, all_more xs (length y.bytes) (length x.bytes) l h.2))

  keep : (x : Spelling) (xs : List Spelling) (m : Match) → starts x.bytes s ≡ false → Longest xs s m → Longest (x ∷ xs) s m
  keep x xs nothing e h = (e, h)
  keep x xs (match y) e h = (Memᴰ.tail h.0, h.1, (λ f. clash f e, h.2))

  pub longest_is : (xs : List Spelling) → Longest xs s (longest xs s)
  unfolding longest
  longest_is [] = tt
  longest_is (x ∷ xs) = go (starts x.bytes s) refl (longest_is xs)
    where
      go : (t : Bool) → starts x.bytes s ≡ t → Longest xs s (longest xs s) → Longest (x ∷ xs) s (cond t (longer x (longest xs s)) (longest xs s))
      go true e r = add x xs (longest xs s) e r
      go false e r = keep x xs (longest xs s) e r
