-- A set tested member by member, least first: those that fail are taken away. Assumes nothing.
use mathlib.Core.Bool.{Bool, true, false, not, ◌&&◌, ◌||◌, cond, and-true, and-false}
use mathlib.Core.Path.{◌≡◌, refl, sym, ap, ◌∙◌}
use mathlib.Core.Logic.{⊎_elim}
use Prim.Native.Nat.{ℕ, ◌+◌, ◌≤◌, ◌<◌}
use native.Mathlib.Decide.{ℕ_discrete as dec_eq}
use native.Mathlib.Omega.{arith}
use lib.Dec.{leb, leb-zero}
use borrow.Author.Tests.{lt-leb, le-leb, eq-eqb, ne_eqb}
use Rattle.lists.proofs.Truth.{side}
use Rattle.evalset.specs.Sets.{drop_of}

module _ (test p : ℕ → Bool) where
  -- of those below e, the ones that pass are kept
  abbrev pub TestedTo : ℕ → (ℕ → Bool) → Type 0
  TestedTo e q = (d : ℕ) → q d ≡ (p d && (leb e d || test d))

  pub tested_none : TestedTo 0 p
  tested_none d = sym (ap (λ (b : Bool). p d && (b || test d)) (leb-zero d) ∙ and-true (p d))

  -- from i to e there is none
  pub tested_skip : (i e : ℕ) (q : ℕ → Bool) → i ≤ e → ((d : ℕ) → i ≤ d → d < e → p d ≡ false) → TestedTo i q → TestedTo e q
  tested_skip i e q l none h d =
      h d ∙ ⊎_elim (λ k. ap (λ (b : Bool). p d && (b || test d)) (lt-leb i d k ∙ sym (lt-leb e d (omega arith))))
      (λ k. ⊎_elim
      (λ j. ap (λ (b : Bool). b && (leb i d || test d)) (none d k j) ∙ sym (ap (λ (b : Bool). b && (leb e d || test d)) (none d k j)))
      (λ j. ap (λ (b : Bool). p d && (b || test d)) (le-leb i d k ∙ sym (le-leb e d j))) (side d e)) (side d i)

  pub tested_more : (e : ℕ) (q : ℕ → Bool) → TestedTo e q → TestedTo (e + 1) (cond (test e) q (drop_of q e))
  tested_more e q h d = go (dec_eq d e)
    where
      -- where it is not e, nothing changes
      kept_other : (d ≡ e → ⊥) → (b : Bool) → cond b q (drop_of q e) d ≡ q d
      kept_other ne true = refl
      kept_other ne false = ap (λ (b : Bool). q d && not b) (ne_eqb d e ne) ∙ and-true (q d)

      same_side : (d ≡ e → ⊥) → leb e d ≡ leb (e + 1) d
      same_side ne =
          ⊎_elim (λ l. lt-leb e d l ∙ sym (lt-leb (e + 1) d (omega arith)))
          (λ l. le-leb e d l ∙ sym (le-leb (e + 1) d (omega (arith, ne)))) (side d e)

      here_is : (b : Bool) → q e ≡ p e → cond b q (drop_of q e) e ≡ (p e && (false || b))
      here_is true k = k ∙ sym (and-true (p e))
      here_is false k = ap (λ (b : Bool). q e && not b) (eq-eqb e e refl) ∙ and-false (q e) ∙ sym (and-false (p e))

      go : Dec (d ≡ e) → cond (test e) q (drop_of q e) d ≡ (p d && (leb (e + 1) d || test d))
      go (yes z) =
          ap (cond (test e) q (drop_of q e)) z
          ∙ here_is (test e) (h e ∙ ap (λ (b : Bool). p e && (b || test e)) (le-leb e e (omega arith)) ∙ and-true (p e))
          ∙ ap (λ (b : Bool). p e && (b || test e)) (sym (lt-leb (e + 1) e (omega arith)))
          ∙ ap (λ (x : ℕ). p x && (leb (e + 1) x || test x)) (sym z)
      go (no ne) = kept_other ne (test e) ∙ h d ∙ ap (λ (b : Bool). p d && (b || test d)) (same_side ne)

  -- and from e on there is none
  pub tested_all : (e : ℕ) (q : ℕ → Bool) → ((d : ℕ) → e ≤ d → p d ≡ false) → TestedTo e q → (d : ℕ) → q d ≡ (p d && test d)
  tested_all e q none h d =
      h d ∙ ⊎_elim (λ l. ap (λ (b : Bool). p d && (b || test d)) (lt-leb e d l))
      (λ l. ap (λ (b : Bool). b && (leb e d || test d)) (none d l) ∙ sym (ap (λ (b : Bool). b && test d) (none d l))) (side d e)
