-- No sign has more than three bytes, so the first three decide the longest with which the text starts: each byte is the one that a sign
-- has there, or another. Assumes nothing.
use mathlib.Core.Path.{◌≡◌, refl, sym, subst}
use mathlib.Core.Bool.{Bool, true, false}
use mathlib.Core.List.{List, [], ◌∷◌}
use Prim.Native.Nat.{ℕ}
use lib.Dec.{eqb}
use lib.ListN.{get_or}
use borrow.Author.Tests.{eqb-true}
use Rattle.lexer.specs.Spelling.{signs, starts}
use Rattle.lexer.specs.Cutter.{longest, sign_piece}
use Rattle.lexer.specs.Steps.{sign_of}

on : (k a : ℕ) (P : ℕ → Type 0) → P k → (eqb a k ≡ false → P a) → P a
on k a P p q = go (eqb a k) refl
  where
    go : (t : Bool) → eqb a k ≡ t → P a
    go true e = subst P (sym (eqb-true a k e)) p
    go false e = q e

abbrev Right : List ℕ → ℕ → Type 0
Right s a = sign_of a (get_or s 0 0) (get_or s 1 0) ≡ sign_piece (a ∷ s)

minus_right : (s : List ℕ) → Right s 45
unfolding sign_of sign_piece signs longest starts
minus_right [] = refl
minus_right (b ∷ s) = on 62 b (λ (x : ℕ). Right (x ∷ s) 45) refl (λ e. simp e)

less_right : (s : List ℕ) → Right s 60
unfolding sign_of sign_piece signs longest starts
less_right [] = refl
less_right (b ∷ []) = on 61 b (λ (x : ℕ). Right (x ∷ []) 60) refl (λ e. on 45 b (λ (x : ℕ). Right (x ∷ []) 60) refl (λ f. simp (e, f)))
less_right (b ∷ d ∷ s) =
    on 61 b (λ (x : ℕ). Right (x ∷ d ∷ s) 60) (on 109 d (λ (x : ℕ). Right (61 ∷ x ∷ s) 60) refl (λ e. simp e))
    (λ e. on 45 b (λ (x : ℕ). Right (x ∷ d ∷ s) 60) (on 62 d (λ (x : ℕ). Right (45 ∷ x ∷ s) 60) refl (λ g. simp g)) (λ f. simp (e, f)))

equals_right : (s : List ℕ) → Right s 61
unfolding sign_of sign_piece signs longest starts
equals_right [] = refl
equals_right (b ∷ []) = on 48 b (λ (x : ℕ). Right (x ∷ []) 61) refl (λ e. on 32 b (λ (x : ℕ). Right (x ∷ []) 61) refl (λ f. simp (e, f)))
equals_right (b ∷ d ∷ s) =
    on 48 b (λ (x : ℕ). Right (x ∷ d ∷ s) 61) refl
    (λ e. on 32 b (λ (x : ℕ). Right (x ∷ d ∷ s) 61) (on 48 d (λ (x : ℕ). Right (32 ∷ x ∷ s) 61) refl (λ g. simp g)) (λ f. simp (e, f)))

pub sign_right : (a : ℕ) (s : List ℕ) → sign_of a (get_or s 0 0) (get_or s 1 0) ≡ sign_piece (a ∷ s)
unfolding sign_of sign_piece signs longest starts
sign_right a s =
    on 40 a (Right s) refl λ e1. on 41 a (Right s) refl λ e2. on 44 a (Right s) refl λ e3. on 42 a (Right s) refl λ e4.
    on 43 a (Right s) refl λ e5. on 38 a (Right s) refl λ e6. on 124 a (Right s) refl λ e7. on 126 a (Right s) refl λ e8.
    on 45 a (Right s) (minus_right s) λ e9. on 60 a (Right s) (less_right s) λ e10. on 61 a (Right s) (equals_right s) λ e11.
    simp (e1, e2, e3, e4, e5, e6, e7, e8, e9, e10, e11)
