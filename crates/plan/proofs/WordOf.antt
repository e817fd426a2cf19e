-- The positions of points as the bits of a word: one more position, and all of a word. Assumes nothing.
use mathlib.Core.Path.{◌≡◌, sym, ap, ap₂, ◌∙◌}
use mathlib.Core.Bool.{Bool, ◌&&◌, ◌||◌, or-false}
use mathlib.Core.Logic.{◌⊎◌, ⊎_elim}
use Prim.Native.Nat.{ℕ, ◌+◌, ◌-◌, ◌≤◌, ◌<◌}
use native.Mathlib.Omega.{arith}
use native.Mathlib.Decide.{ℕ_discrete as dec_eq}
use lib.Dec.{ltb, eqb}
use borrow.Author.Tests.{lt-ltb, le-ltb, eq-eqb, ne_eqb}
use Rattle.lists.proofs.Truth.{side}
use Rattle.evalset.specs.Bit.{bit}

-- a word holds the positions from start on, up to j, that pass f
abbrev pub Held : ℕ → ℕ → (ℕ → Bool) → ℕ → Type 0
Held start j f w = (e : ℕ) → bit w e ≡ (ltb (start + e) j && f (start + e))

-- one position more
pub held_more : (start j : ℕ) (f : ℕ → Bool) (w v : ℕ) (b : Bool) → start ≤ j → Held start j f w → b ≡ f j
    → ((e : ℕ) → bit v e ≡ (bit w e || (eqb e (j - start) && b))) → Held start (j + 1) f v
held_more start j f w v b low h is s e = s e ∙ at (dec_eq e (j - start))
  where
    here : e ≡ j - start → (bit w e || (eqb e (j - start) && b)) ≡ (ltb (start + e) (j + 1) && f (start + e))
    here z =
        let p : start + e ≡ j = omega arith in
        ap₂ (λ (x y : Bool). x || (y && b)) (h e ∙ ap (λ (y : Bool). y && f (start + e)) (le-ltb (start + e) j (omega arith))) (eq-eqb e (j - start) z)
        ∙ is ∙ ap f (sym p)
        ∙ sym (ap (λ (y : Bool). y && f (start + e)) (lt-ltb (start + e) (j + 1) (omega arith)))

    there : (e ≡ j - start → ⊥) → (bit w e || (eqb e (j - start) && b)) ≡ (ltb (start + e) (j + 1) && f (start + e))
    there n =
        ap (λ (y : Bool). bit w e || (y && b)) (ne_eqb e (j - start) n) ∙ or-false (bit w e) ∙ h e
        ∙ ap (λ (y : Bool). y && f (start + e)) (⊎_elim
        (λ l. lt-ltb (start + e) j l ∙ sym (lt-ltb (start + e) (j + 1) (omega arith)))
        (λ l. let m : j + 1 ≤ start + e = above l in le-ltb (start + e) j l ∙ sym (le-ltb (start + e) (j + 1) m))
        (side (start + e) j))
      where
        above : j ≤ start + e → j + 1 ≤ start + e
        above l = ⊎_elim (λ m. omega arith) (λ m. absurd (n (omega arith))) (side j (start + e))

    at : Dec (e ≡ j - start) → (bit w e || (eqb e (j - start) && b)) ≡ (ltb (start + e) (j + 1) && f (start + e))
    at (yes z) = here z
    at (no n) = there n

-- all positions below n that the word has room for
pub held_all : (start j n : ℕ) (f : ℕ → Bool) (w e : ℕ) → Held start j f w → j ≤ start + (n - start) → (n ≤ j) ⊎ (start + e < j) → bit w e ≡ (ltb (start + e) n && f (start + e))
held_all start j n f w e h low over = h e ∙ ap (λ (y : Bool). y && f (start + e)) (⊎_elim below above (side (start + e) j))
  where
    below : start + e < j → ltb (start + e) j ≡ ltb (start + e) n
    below l = lt-ltb (start + e) j l ∙ sym (lt-ltb (start + e) n (omega arith))

    above : j ≤ start + e → ltb (start + e) j ≡ ltb (start + e) n
    above l = le-ltb (start + e) j l ∙ sym (le-ltb (start + e) n (⊎_elim (λ m. omega arith) (λ m. omega arith) over))
