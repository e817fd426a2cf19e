-- Partial rows with one atom more decided. Assumes nothing.
use mathlib.Core.Bool.{Bool, false}
use mathlib.Core.Path.{◌≡◌, refl, ap}
use mathlib.Core.List.{[], ◌∷◌, ◌++◌, map}
use Prim.Native.Nat.{ℕ, zero, suc, ◌≤◌, ◌<◌}
use native.Mathlib.Omega.{arith}
use lib.ListN.{length, get_or}
use Rattle.contact.specs.Row.{Row, is, unknown, PartialRow, Extends}
use Rattle.trees.specs.Closed.{value_in, decided}

-- no longer than there are atoms
pub decided_length : (n : ℕ) (part : PartialRow) (a : ℕ) (b : Bool) → length part ≤ n → a < n → length (decided part a b) ≤ n
decided_length zero part a b h l = absurd (omega arith)
decided_length (suc n) [] zero b h l = omega arith
decided_length (suc n) [] (suc a) b h l = let r = decided_length n [] a b (omega arith) (omega arith) in omega arith
decided_length (suc n) (x ∷ part) zero b h l = omega arith
decided_length (suc n) (x ∷ part) (suc a) b h l = let r = decided_length n part a b (omega arith) (omega arith) in omega arith

-- the other atoms are as they were
pub decided_other : (part : PartialRow) (a : ℕ) (b : Bool) (i : ℕ) → (i ≡ a → ⊥) → value_in (decided part a b) i ≡ value_in part i
decided_other [] zero b zero h = absurd (h refl)
decided_other [] zero b (suc i) h = refl
decided_other [] (suc a) b zero h = refl
decided_other [] (suc a) b (suc i) h = decided_other [] a b i (λ e. h (ap suc e))
decided_other (x ∷ part) zero b zero h = absurd (h refl)
decided_other (x ∷ part) zero b (suc i) h = refl
decided_other (x ∷ part) (suc a) b zero h = refl
decided_other (x ∷ part) (suc a) b (suc i) h = decided_other part a b i (λ e. h (ap suc e))

pub decided_own : (part : PartialRow) (a : ℕ) (b : Bool) → value_in (decided part a b) a ≡ is b
decided_own [] zero b = refl
decided_own [] (suc a) b = decided_own [] a b
decided_own (x ∷ part) zero b = refl
decided_own (x ∷ part) (suc a) b = decided_own part a b

-- a row that extends a branch extends the one where its own value of an atom is decided
pub extends_decided : (row : Row) (part : PartialRow) (a : ℕ) (b : Bool) → a < length row → get_or row a false ≡ b → Extends row part
    → Extends row (decided part a b)
extends_decided [] part a b l e h = absurd (omega arith)
extends_decided (c ∷ row) [] zero b l e h = (e, tt)
extends_decided (c ∷ row) [] (suc a) b l e h = extends_decided row [] a b (omega arith) e tt
extends_decided (c ∷ row) (unknown ∷ part) zero b l e h = (e, h)
extends_decided (c ∷ row) (unknown ∷ part) (suc a) b l e h = extends_decided row part a b (omega arith) e h
extends_decided (c ∷ row) (is d ∷ part) zero b l e h = (e, h.1)
extends_decided (c ∷ row) (is d ∷ part) (suc a) b l e h = (h.0, extends_decided row part a b (omega arith) e h.1)

-- the next atom after those of a row
pub decided_next : (row : Row) (b : Bool) → decided (map is row) (length row) b ≡ map is (row ++ b ∷ [])
decided_next [] b = refl
decided_next (c ∷ row) b = ap (λ p. is c ∷ p) (decided_next row b)
