-- Rows as numbers: bit j of the number is the atom that has j after it, so the lower half of the numbers has the first atom true and
-- the upper half false; and the marks of one atom more are those so far and its own. Assumes nothing.
use mathlib.Core.Bool.{Bool, true, false, not}
use mathlib.Core.Path.{◌≡◌, refl, sym, ap, ap₂, ◌∙◌}
use mathlib.Core.List.{List, [], ◌∷◌, ◌++◌}
use Prim.Native.Nat.{ℕ, zero, suc, ◌+◌, ◌-◌, ◌/◌, ◌%◌, ◌^◌, ◌≤◌, ◌<◌}
use mathlib.Core.Logic.{⊎_elim}
use native.Mathlib.Nat.{mod-lt, zero-lt-suc, pow-suc}
use native.Mathlib.Omega.{arith}
use lib.Dec.{eqb}
use lib.ListN.{length, get_or, take}
use lib.Seq.{take-length, length-take-le}
use Rattle.lists.proofs.Lists.{take_next}
use Rattle.lists.proofs.Truth.{side}
use Rattle.formula.specs.Formula.{Atom}
use Rattle.evalset.specs.Bit.{bit}
use Rattle.lists.specs.Search.{In, here, next}
use Rattle.evalset.proofs.Bits.{bit_above, bit_under, bit_top}
use Rattle.contact.specs.Row.{Row}
use Rattle.contact.specs.Plan.{Mark, mark, row_marks}
use Rattle.contact.proofs.Searching.{no_marks}
use Rattle.search.specs.Rows.{row_bits, row_number}
use Rattle.search.specs.Compiled.{atom_at}

-- ---- the row of a number

pub row_length : (k p : ℕ) → length (row_bits k p) ≡ k
unfolding row_bits
row_length zero p = refl
row_length (suc k) p = ap suc (row_length k p)

pub row_at : (k p i : ℕ) → i < k → get_or (row_bits k p) i false ≡ not (bit p (k - 1 - i))
unfolding row_bits
row_at zero p i h = absurd (omega arith)
row_at (suc k) p zero h =
    let z : k ≡ suc k - 1 - 0 = omega arith in
    ap (λ (j : ℕ). not (bit p j)) z
row_at (suc k) p (suc i) h =
    let z : k - 1 - i ≡ suc k - 1 - suc i = omega arith in
    row_at k p i (omega arith) ∙ ap (λ (j : ℕ). not (bit p j)) z

digit_zero : (d : ℕ) → d < 2 → eqb d 0 ≡ not (eqb d 1)
digit_zero zero h = refl
digit_zero (suc zero) h = refl
digit_zero (suc (suc d)) h = absurd (omega arith)

-- as the code reads it
pub row_read : (k p i : ℕ) → i < k → eqb (p / 2 ^ (k - 1 - i) % 2) 0 ≡ get_or (row_bits k p) i false
unfolding bit
row_read k p i h = digit_zero (p / 2 ^ (k - 1 - i) % 2) (mod-lt _ (zero-lt-suc 1)) ∙ sym (row_at k p i h)

-- ---- the halves: the rows below 2 ^ j have their first atom true, those from there on false

row_high : (k m e : ℕ) → k ≤ m → row_bits k (2 ^ m + e) ≡ row_bits k e
unfolding row_bits
row_high zero m e l = refl
row_high (suc k) m e l = ap₂ ◌∷◌ (ap not (bit_under m e k (omega arith))) (row_high k m e (omega arith))

pub row_lower : (j e : ℕ) → e < 2 ^ j → row_bits (suc j) e ≡ true ∷ row_bits j e
unfolding row_bits
row_lower j e l = ap (λ (b : Bool). not b ∷ row_bits j e) (bit_above j e j l (omega arith))

pub row_upper : (j e : ℕ) → e < 2 ^ j → row_bits (suc j) (2 ^ j + e) ≡ false ∷ row_bits j e
unfolding row_bits
row_upper j e l = ap₂ (λ (b : Bool) (r : List Bool). not b ∷ r) (bit_top j e l) (row_high j j e (omega arith))

-- ---- the number of a row

pub number_below : (row : Row) → row_number row < 2 ^ length row
unfolding row_number
number_below [] = omega arith
number_below (true ∷ row) = omega (arith, pow-suc 2 (length row), number_below row)
number_below (false ∷ row) = omega (arith, pow-suc 2 (length row), number_below row)

-- the row with its number is the row
pub row_back : (row : Row) → row_bits (length row) (row_number row) ≡ row
unfolding row_bits row_number
row_back [] = refl
row_back (true ∷ row) = row_lower (length row) (row_number row) (number_below row) ∙ ap (λ (r : Row). true ∷ r) (row_back row)
row_back (false ∷ row) = row_upper (length row) (row_number row) (number_below row) ∙ ap (λ (r : Row). false ∷ r) (row_back row)

-- and a number below 2 ^ k is that of its row
pub number_back : (k p : ℕ) → p < 2 ^ k → row_number (row_bits k p) ≡ p
unfolding row_bits row_number
number_back zero p l = omega arith
number_back (suc k) p l =
    ⊎_elim (λ h. ap row_number (row_lower k p h) ∙ number_back k p h)
    (λ h. let e : ℕ = p - 2 ^ k in
    let z : p ≡ 2 ^ k + e = omega arith in
    let b : e < 2 ^ k = omega (arith, pow-suc 2 k) in
    ap (λ (x : ℕ). row_number (row_bits (suc k) x)) z ∙ ap row_number (row_upper k e b)
    ∙ ap₂ (λ (n x : ℕ). 2 ^ n + x) (row_length k e) (number_back k e b) ∙ sym z)
    (side p (2 ^ k))

-- ---- the marks of a row

marks_last : (atoms : List (Atom ℕ)) (row : Row) (b : Bool) → length row < length atoms
    → row_marks atoms (row ++ b ∷ []) ≡ row_marks atoms row ++ mark (atom_at atoms (length row)) b ∷ []
marks_last [] row b l = absurd (omega arith)
marks_last (a ∷ atoms) [] b l = ap (λ (ms : List Mark). mark a b ∷ ms) (no_marks atoms)
marks_last (a ∷ atoms) (c ∷ row) b l = ap (λ (ms : List Mark). mark a c ∷ ms) (marks_last atoms row b (omega arith))

-- the marks of the first i atoms, and of one more
pub marks_take : (atoms : List (Atom ℕ)) (row : Row) (i : ℕ) → i < length row → length row ≤ length atoms
    → row_marks atoms (take (i + 1) row) ≡ row_marks atoms (take i row) ++ mark (atom_at atoms i) (get_or row i false) ∷ []
marks_take atoms row i l n =
    let z : length (take i row) ≡ i = length-take-le i row (omega arith) in
    ap (row_marks atoms) (take_next row i false l)
    ∙ marks_last atoms (take i row) (get_or row i false) (omega arith)
    ∙ ap (λ (j : ℕ). row_marks atoms (take i row) ++ mark (atom_at atoms j) (get_or row i false) ∷ []) z

-- all atoms of the row are passed
pub marks_whole : (atoms : List (Atom ℕ)) (k p i : ℕ) → i ≡ k → row_marks atoms (take i (row_bits k p)) ≡ row_marks atoms (row_bits k p)
marks_whole atoms k p i e =
    ap (row_marks atoms) (ap (λ (j : ℕ). take j (row_bits k p)) (e ∙ sym (row_length k p)) ∙ take-length (row_bits k p))

-- each atom of the row has its mark there
pub mark_in : (atoms : List (Atom ℕ)) (row : Row) (i : ℕ) → i < length row → length row ≤ length atoms
    → In (mark (atom_at atoms i) (get_or row i false)) (row_marks atoms row)
mark_in [] row i l n = absurd (omega arith)
mark_in (a ∷ atoms) [] i l n = absurd (omega arith)
mark_in (a ∷ atoms) (b ∷ row) zero l n = here
mark_in (a ∷ atoms) (b ∷ row) (suc i) l n = next (mark_in atoms row i (omega arith) (omega arith))
