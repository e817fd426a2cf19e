-- The words of the stack hold its sets: those at four places in a row are one set, and a set put there changes no other. Assumes nothing.
use mathlib.Core.Path.{◌≡◌, refl, ap}
use mathlib.Core.List.{List, [], ◌∷◌}
use Prim.Native.Nat.{ℕ, zero, suc, ◌+◌, ◌*◌, ◌/◌, ◌≤◌}
use native.Mathlib.Numerals.{unary_clauses}
use native.Mathlib.Omega.{arith}
use lib.ListN.{length, get_or, set}
use Rattle.evalset.specs.declared.EvalSet.{EvalSet}
use Rattle.compile.specs.Stack.{sets_in}

pub sets_count : (ws : List ℕ) → length (sets_in ws) ≡ length ws / 4
unfolding sets_in
sets_count [] = refl
sets_count (a ∷ []) = refl
sets_count (a ∷ (b ∷ [])) = refl
sets_count (a ∷ (b ∷ (c ∷ []))) = refl
sets_count (a ∷ (b ∷ (c ∷ (d ∷ ws)))) = omega (arith, sets_count ws)

-- the words of the next set
next_four : (h : ℕ) → 4 * suc h ≡ suc (suc (suc (suc (4 * h))))
next_four h = omega arith

pub set_read : (h : ℕ) (ws : List ℕ) → 4 * h + 4 ≤ length ws
    → get_or (sets_in ws) h (record { words = [] }) ≡ record { words = get_or ws (4 * h) 0 ∷ get_or ws (4 * h + 1) 0 ∷ get_or ws (4 * h + 2) 0 ∷ get_or ws (4 * h + 3) 0 ∷ [] }
unfolding sets_in
set_read h [] l = absurd (omega arith)
set_read h (a ∷ []) l = absurd (omega arith)
set_read h (a ∷ (b ∷ [])) l = absurd (omega arith)
set_read h (a ∷ (b ∷ (c ∷ []))) l = absurd (omega arith)
set_read zero (a ∷ (b ∷ (c ∷ (d ∷ ws)))) l = refl
set_read (suc h) (a ∷ (b ∷ (c ∷ (d ∷ ws)))) l = rw (next_four h) (simp unary_clauses (simp unary_clauses at (set_read h ws (omega arith))))

module _ (x y z w : ℕ) where
  pub set_written : (h : ℕ) (ws : List ℕ) → 4 * h + 4 ≤ length ws
      → sets_in (set (set (set (set ws (4 * h) x) (4 * h + 1) y) (4 * h + 2) z) (4 * h + 3) w) ≡ set (sets_in ws) h (record { words = x ∷ y ∷ z ∷ w ∷ [] })
  unfolding sets_in
  set_written h [] l = absurd (omega arith)
  set_written h (a ∷ []) l = absurd (omega arith)
  set_written h (a ∷ (b ∷ [])) l = absurd (omega arith)
  set_written h (a ∷ (b ∷ (c ∷ []))) l = absurd (omega arith)
  set_written zero (a ∷ (b ∷ (c ∷ (d ∷ ws)))) l = refl
  set_written (suc h) (a ∷ (b ∷ (c ∷ (d ∷ ws)))) l =
      rw (next_four h)
      (simp unary_clauses
      (simp unary_clauses at (ap (λ (s : List EvalSet). record { words = a ∷ b ∷ c ∷ d ∷ [] } ∷ s) (set_written h ws (omega arith)))))
