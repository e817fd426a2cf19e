-- The walks through a set from its least evaluation upwards (evalset, Walk): those passed are settled, those between are not in the
-- set, and the first that succeeds is the least. Assumes nothing.
use mathlib.Core.Bool.{Bool, true, false, ◌&&◌, ◌||◌, and-false, or-false, or_comm}
use mathlib.Core.Path.{◌≡◌, refl, sym, ap, ap₂, ◌∙◌, subst}
use mathlib.Core.Logic.{⊎_elim}
use mathlib.Core.List.{List, [], ◌∷◌, ◌++◌}
use Prim.Native.Nat.{ℕ, ◌+◌, ◌≤◌, ◌<◌}
use native.Mathlib.Omega.{arith}
use lib.Dec.{eqb}
use borrow.Author.Count.{below_more}
use Rattle.lists.proofs.Below.{Least, first_at, first_none_below}
use Rattle.lists.proofs.Truth.{side}
use Rattle.lists.specs.Search.{any, first, collect, below, elem}
use Rattle.evalset.specs.Sets.{room, none_of, minus_of, add_of}
use Rattle.evalset.proofs.Members.{add_in}
use Rattle.evalset.proofs.Walk.{Step}
use Rattle.search.specs.Tests.{Separates, starts_of, pair_from, pair_of}

-- ---- each of x is separated from each of y: done below i, and nothing changed from i up

pub record SeparatedTo (i n : ℕ) (sep r : ℕ → ℕ → Bool) (x y : ℕ → Bool) : Type 0 where
  pub done : (p q : ℕ) → p < i → p < n → q < n → r p q ≡ (sep p q || (x p && y q))
  pub kept : (p q : ℕ) → i ≤ p → r p q ≡ sep p q

module _ (n : ℕ) (sep : ℕ → ℕ → Bool) (x y : ℕ → Bool) where
  pub separate_none : SeparatedTo 0 n sep sep x y
  separate_none = record { done = λ p q l. absurd (omega arith); kept = λ p q l. refl }

  out_of : (r : ℕ → ℕ → Bool) (p q : ℕ) → r p q ≡ sep p q → x p ≡ false → r p q ≡ (sep p q || (x p && y q))
  out_of r p q h g = h ∙ sym (ap (λ (b : Bool). sep p q || (b && y q)) g ∙ or-false (sep p q))

  -- evaluation e is taken: its row alone changes
  module _ (i e : ℕ) (rest : ℕ → Bool) (t : Step room i e x rest) (r m : ℕ → ℕ → Bool) (so_far : SeparatedTo i n sep r x y)
      (here : (q : ℕ) → e < n → q < n → m e q ≡ (r e q || y q)) (other : (p q : ℕ) → (p ≡ e → ⊥) → m p q ≡ r p q) where
    pub separate_on : SeparatedTo (e + 1) n sep m x y
    separate_on =
        record {
          done = λ p q l a b. ⊎_elim (λ k. other p q (λ z. omega arith) ∙ under p q k a b) (λ k. there p q (omega arith) a b) (side p e);
          kept = λ p q l. other p q (λ z. omega arith) ∙ so_far.kept p q (omega (arith, t.low));
        }
      where
        under : (p q : ℕ) → p < e → p < n → q < n → r p q ≡ (sep p q || (x p && y q))
        under p q k a b =
            ⊎_elim (λ l. so_far.done p q l a b) (λ l. out_of r p q (so_far.kept p q l) (t.between p l k)) (side p i)

        there : (p q : ℕ) → e ≡ p → p < n → q < n → m p q ≡ (sep p q || (x p && y q))
        there p q z a b =
            subst (λ (d : ℕ). m d q ≡ (sep d q || (x d && y q))) z
            (here q (omega arith) b ∙ ap₂ (λ (c d : Bool). c || (d && y q)) (so_far.kept e q t.low) (sym t.passes))

  pub separate_ends : (i : ℕ) (r : ℕ → ℕ → Bool) → SeparatedTo i n sep r x y → n ≤ room
      → ((p : ℕ) → i ≤ p → p < room → x p ≡ false) → Separates n sep x y r
  separate_ends i r h small rest p q a b =
      ⊎_elim (λ k. h.done p q k a b) (λ k. out_of r p q (h.kept p q k) (rest p k (omega arith))) (side p i)

-- ---- the least of a set, as a set

module _ (f : ℕ → Bool) where
  pub one_found : (p : ℕ) → Least room p f → (e : ℕ) → add_of none_of p e ≡ elem e (first f (below room))
  one_found p h e =
      add_in none_of p h.within e ∙ sym (ap (elem e) (first_at f room p h) ∙ or-false (eqb e p))

  pub none_found : ((d : ℕ) → d < room → f d ≡ false) → (e : ℕ) → false ≡ elem e (first f (below room))
  none_found h e = sym (ap (elem e) (first_none_below f room h))

-- ---- the least of f with a partner in g

module _ (f g : ℕ → Bool) (sep : ℕ → ℕ → Bool) where
  pub starts_alone : (p : ℕ) → any (minus_of g (sep p)) (below room) ≡ false → starts_of f g sep p ≡ false
  unfolding starts_of
  starts_alone p h = ap (λ (b : Bool). f p && b) h ∙ and-false (f p)

  starts_out : (p : ℕ) → f p ≡ false → starts_of f g sep p ≡ false
  unfolding starts_of
  starts_out p h = ap (λ (b : Bool). b && any (minus_of g (sep p)) (below room)) h

  pub starts_yes : (p : ℕ) → f p ≡ true → any (minus_of g (sep p)) (below room) ≡ true → starts_of f g sep p ≡ true
  unfolding starts_of
  starts_yes p h k = ap₂ ◌&&◌ h k

  -- none so far
  abbrev pub Passed : ℕ → Type 0
  Passed i = (d : ℕ) → d < i → starts_of f g sep d ≡ false

  pub walk_ends : (i : ℕ) {e : ℕ} → Passed i → ((d : ℕ) → i ≤ d → d < e → f d ≡ false) → Passed e
  walk_ends i passed rest d l = ⊎_elim (λ k. passed d k) (λ k. starts_out d (rest d k l)) (side d i)

  pub walk_on : (i e : ℕ) (q : ℕ → Bool) → Step room i e f q → Passed i → starts_of f g sep e ≡ false → Passed (e + 1)
  walk_on i e q t passed h = below_more (λ d. starts_of f g sep d ≡ false) e (walk_ends i passed t.between) h

  pub walk_found : (i e : ℕ) (q : ℕ → Bool) → Step room i e f q → Passed i → starts_of f g sep e ≡ true
      → Least room e (starts_of f g sep)
  walk_found i e q t passed h = record { within = t.within; passes = h; before = walk_ends i passed t.between }

  -- the pair that is found, as a set
  pub pair_found : (p q : ℕ) → Least room p (starts_of f g sep) → Least room q (minus_of g (sep p)) → (e : ℕ)
      → add_of (add_of none_of q) p e ≡ elem e (pair_of f g sep)
  unfolding pair_of
  pair_found p q h k e =
      add_in (add_of none_of q) p h.within e ∙ ap (λ (b : Bool). b || eqb e p) (add_in none_of q k.within e)
      ∙ or_comm (eqb e q) (eqb e p) ∙ ap (λ (b : Bool). eqb e p || b) (sym (or-false (eqb e q)))
      ∙ sym (ap (λ (xs : List ℕ). elem e (collect (pair_from g sep) xs)) (first_at (starts_of f g sep) room p h)
      ∙ ap (λ (xs : List ℕ). elem e ((p ∷ xs) ++ [])) (first_at (minus_of g (sep p)) room q k))

  pub pair_none : Passed room → (e : ℕ) → false ≡ elem e (pair_of f g sep)
  unfolding pair_of
  pair_none h e = sym (ap (λ (xs : List ℕ). elem e (collect (pair_from g sep) xs)) (first_none_below (starts_of f g sep) room h))
