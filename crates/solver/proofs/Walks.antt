-- The rows under a row, block by block in their order: a row with d atoms more has the row's bits and d more, so the first good row is in
-- the first block that has one. Assumes nothing.
use mathlib.Core.Bool.{Bool, true, false, not}
use mathlib.Core.Path.{◌≡◌, refl, sym, ap, ap₂, ◌∙◌}
use mathlib.Core.List.{List, [], ◌∷◌, ◌++◌, append_assoc, append-nil}
use mathlib.Core.Logic.{⊎_elim}
use Prim.Native.Nat.{ℕ, zero, suc, ◌+◌, ◌-◌, ◌*◌, ◌^◌, ◌≤◌, ◌<◌}
use native.Mathlib.Nat.{pow-suc, zero-add, eq-or-lt_of_le}
use native.Mathlib.Omega.{arith}
use Rattle.lists.specs.Search.{first, or_else, collect, from, below}
use Rattle.lists.proofs.Search.{first_append, collect_append, collect_same, from_append, below_elim}
use Rattle.lists.proofs.Truth.{side}
use Rattle.evalset.specs.Bit.{bit}
use Rattle.contact.specs.Row.{Row}
use Rattle.contact.specs.Tableau.{under}
use Rattle.contact.proofs.Searching.{under_split}
use Rattle.search.specs.Rows.{row_bits}
use Rattle.search.proofs.Rows.{row_lower, row_upper}
use Rattle.pairing.proofs.Words.{bit_lower, bit_upper}

-- ---- rows as numbers, one part behind the other

row_low : (j w b e : ℕ) → j ≤ w → row_bits j (b * 2 ^ w + e) ≡ row_bits j e
unfolding row_bits
row_low zero w b e l = refl
row_low (suc j) w b e l = ap₂ (λ (x : Bool) (r : Row). not x ∷ r) (bit_lower w b e j (omega arith)) (row_low j w b e (omega arith))

pub row_join : (k b w e : ℕ) → e < 2 ^ w → row_bits k b ++ row_bits w e ≡ row_bits (k + w) (b * 2 ^ w + e)
unfolding row_bits
row_join zero b w e l = sym (row_low w w b e (omega arith)) ∙ ap (λ (x : ℕ). row_bits x (b * 2 ^ w + e)) (sym (zero-add w))
row_join (suc k) b w e l =
    let z : suc k + w ≡ suc (k + w) = omega arith in
    let y : k + w - w ≡ k = omega arith in
    ap₂ (λ (x : Bool) (r : Row). not x ∷ r) (sym (bit_upper w b e (k + w) l (omega arith) ∙ ap (bit b) y)) (row_join k b w e l)
    ∙ ap (λ (x : ℕ). row_bits x (b * 2 ^ w + e)) (sym z)

-- ---- the rows under a row, by blocks

collect_shift : {B : Type 0} (f : ℕ → List B) (k j n : ℕ) → collect f (from (k + j) n) ≡ collect (λ i. f (k + i)) (from j n)
collect_shift f k j zero = refl
collect_shift {B} f k j (suc n) =
    let z : suc (k + j) ≡ k + suc j = omega arith in
    ap (λ (l : List B). f (k + j) ++ l) (ap (λ (x : ℕ). collect f (from x n)) z ∙ collect_shift f k (suc j) n)

collect_halves : {B : Type 0} (f : ℕ → List B) (w : ℕ)
    → collect f (below (2 ^ suc w)) ≡ collect f (below (2 ^ w)) ++ collect (λ u. f (2 ^ w + u)) (below (2 ^ w))
collect_halves {B} f w =
    let z : 2 ^ suc w ≡ 2 ^ w + 2 ^ w = omega (arith, pow-suc 2 w) in
    let y : 0 + 2 ^ w ≡ 2 ^ w + 0 = omega arith in
    ap (λ (n : ℕ). collect f (below n)) z ∙ ap (collect f) (from_append 0 (2 ^ w) (2 ^ w))
    ∙ collect_append f (below (2 ^ w)) (from (0 + 2 ^ w) (2 ^ w))
    ∙ ap (λ (l : List B). collect f (below (2 ^ w)) ++ l) (ap (λ (k : ℕ). collect f (from k (2 ^ w))) y ∙ collect_shift f (2 ^ w) 0 (2 ^ w))

under_blocks : (row : Row) (w d : ℕ) → under row (w + d) ≡ collect (λ e. under (row ++ row_bits w e) d) (below (2 ^ w))
unfolding row_bits
under_blocks row zero d =
    ap (under row) (zero-add d) ∙ ap (λ (r : Row). under r d) (sym (append-nil row)) ∙ sym (append-nil (under (row ++ []) d))
under_blocks row (suc w) d =
    let z : suc w + d ≡ suc (w + d) = omega arith in
    ap (under row) z ∙ under_split row (w + d)
    ∙ ap₂ ◌++◌
    (under_blocks (row ++ true ∷ []) w d ∙ half true (λ e. e) (λ e l. row_lower w e l))
    (under_blocks (row ++ false ∷ []) w d ∙ half false (λ e. 2 ^ w + e) (λ e l. row_upper w e l))
    ∙ sym (collect_halves (λ e. under (row ++ row_bits (suc w) e) d) w)
  where
    half : (b : Bool) (f : ℕ → ℕ) → ((e : ℕ) → e < 2 ^ w → row_bits (suc w) (f e) ≡ b ∷ row_bits w e)
        → collect (λ e. under ((row ++ b ∷ []) ++ row_bits w e) d) (below (2 ^ w)) ≡ collect (λ e. under (row ++ row_bits (suc w) (f e)) d) (below (2 ^ w))
    half b f h =
        collect_same (λ e. under ((row ++ b ∷ []) ++ row_bits w e) d) (λ e. under (row ++ row_bits (suc w) (f e)) d) (below (2 ^ w))
        (λ e i. ap (λ (r : Row). under r d) (append_assoc row (b ∷ []) (row_bits w e) ∙ ap (λ (r : Row). row ++ r) (sym (h e (below_elim (2 ^ w) e i)))))

-- ---- the first of what is gathered

module _ {B : Type 0} (p : B → Bool) (f : ℕ → List B) where
  gathered_none : (k n : ℕ) → ((d : ℕ) → k ≤ d → d < k + n → first p (f d) ≡ []) → first p (collect f (from k n)) ≡ []
  gathered_none k zero h = refl
  gathered_none k (suc n) h =
      first_append p (f k) (collect f (from (suc k) n))
      ∙ ap₂ or_else (h k (omega arith) (omega arith)) (gathered_none (suc k) n (λ d a b. h d (omega arith) (omega arith)))

  gathered_at : (e : ℕ) (x : B) (xs : List B) → first p (f e) ≡ x ∷ xs → (k n : ℕ) → k ≤ e → e < k + n
      → ((d : ℕ) → k ≤ d → d < e → first p (f d) ≡ []) → first p (collect f (from k n)) ≡ x ∷ xs
  gathered_at e x xs q k zero a b h = absurd (omega arith)
  gathered_at e x xs q k (suc n) a b h =
      first_append p (f k) (collect f (from (suc k) n))
      ∙ ⊎_elim
      (λ z. ap (λ (l : List B). or_else l (first p (collect f (from (suc k) n)))) (ap (λ (i : ℕ). first p (f i)) z ∙ q))
      (λ l. ap₂ or_else (h k (omega arith) l) (gathered_at e x xs q (suc k) n l (omega arith) (λ d u v. h d (omega arith) v))) (eq-or-lt_of_le a)

-- ---- a walk over the blocks under a row

module _ (p : Row → Bool) (k b w d : ℕ) where
  -- the e-th block
  abbrev block : ℕ → List Row
  block e = under (row_bits (k + w) (b * 2 ^ w + e)) d

  -- the blocks before e have none
  abbrev pub Passed : ℕ → Type 0
  Passed n = (e : ℕ) → e < n → e < 2 ^ w → first p (block e) ≡ []

  by_blocks : first p (under (row_bits k b) (w + d)) ≡ first p (collect block (below (2 ^ w)))
  by_blocks =
      ap (first p) (under_blocks (row_bits k b) w d
      ∙ collect_same (λ e. under (row_bits k b ++ row_bits w e) d) block (below (2 ^ w))
      (λ e i. ap (λ (r : Row). under r d) (row_join k b w e (below_elim (2 ^ w) e i))))

  pub walk_none : Passed (2 ^ w) → first p (under (row_bits k b) (w + d)) ≡ []
  walk_none h = by_blocks ∙ gathered_none p block 0 (2 ^ w) (λ e u v. h e (omega arith) (omega arith))

  pub walk_at : (e : ℕ) → e < 2 ^ w → Passed e → (x : Row) (xs : List Row) → first p (block e) ≡ x ∷ xs
      → first p (under (row_bits k b) (w + d)) ≡ x ∷ xs
  walk_at e l h x xs q = by_blocks ∙ gathered_at p block e x xs q 0 (2 ^ w) (omega arith) (omega arith) (λ i u v. h i v (omega arith))

  pub passed_none : Passed 0
  passed_none e l k = absurd (omega arith)

  -- a step over blocks that have none
  pub passed_before : (i e : ℕ) → Passed i → ((j : ℕ) → i ≤ j → j < e → j < 2 ^ w → first p (block j) ≡ []) → Passed e
  passed_before i e h g j l m = ⊎_elim (λ z. h j z m) (λ z. g j z l m) (side j i)

  -- and over one more
  pub passed_more : (e : ℕ) → Passed e → first p (block e) ≡ [] → Passed (e + 1)
  passed_more e h q j l m =
      ⊎_elim (λ z. h j z m) (λ z. let s : j ≡ e = omega arith in ap (λ (x : ℕ). first p (block x)) s ∙ q) (side j e)
