-- The next position in a row, by the lowest set bit of what is left of a word. Assumes nothing.
use mathlib.Core.Path.{◌≡◌, sym, ap, ◌∙◌}
use mathlib.Core.Bool.{Bool, false}
use mathlib.Core.Logic.{⊎_elim}
use Prim.Native.Nat.{ℕ, min, ◌+◌, ◌-◌, ◌*◌, ◌/◌, ◌%◌, ◌^◌, ◌≤◌, ◌<◌}
use native.Mathlib.Omega.{arith}
use Rattle.std.specs.Prelude.{Some, None}
use Rattle.lists.specs.Search.{first, below}
use Rattle.lists.proofs.Truth.{clash, side}
use Rattle.evalset.specs.Bit.{word_bits, bit}
use Rattle.evalset.specs.Sets.{found_of}
use Rattle.evalset.proofs.Bits.{bit_shr, bit_above}
use Rattle.evalset.proofs.Walk.{found_least, found_nothing}
use Rattle.plan.specs.Private.{Next}

-- w is the word of position j, and the positions from low on before j are not in the row
module _ (row : ℕ → Bool) (low n j w : ℕ) (from : low ≤ j) (upto : j < n)
    (none : (d : ℕ) → low ≤ d → d < j → row d ≡ false) (word : (e : ℕ) → e < word_bits → bit w e ≡ row (word_bits * (j / word_bits) + e))
    (small : w < 2 ^ word_bits) where
  -- bit x of what is left is position j + x
  left_is : (x : ℕ) → j % word_bits + x < word_bits → bit (w / 2 ^ (j % word_bits)) x ≡ row (j + x)
  left_is x l =
      let e : word_bits * (j / word_bits) + (j % word_bits + x) ≡ j + x = omega arith in
      bit_shr w (j % word_bits) x ∙ word (j % word_bits + x) l ∙ ap row e

  pub next_within : (x : ℕ) → found_of (first (bit (w / 2 ^ (j % word_bits))) (below word_bits)) ≡ Some x → j % word_bits + x < word_bits
  next_within x f =
      let s = found_least (bit (w / 2 ^ (j % word_bits))) word_bits x f in
      ⊎_elim (λ l. l) (λ l. absurd (clash s.passes (bit_shr w (j % word_bits) x ∙ bit_above word_bits w (j % word_bits + x) small l)))
      (side (j % word_bits + x) word_bits)

  pub next_found : (x : ℕ) → found_of (first (bit (w / 2 ^ (j % word_bits))) (below word_bits)) ≡ Some x → (r : ℕ) → r ≡ min (j + x) n
      → Next row low n r
  next_found x f r q =
      let s = found_least (bit (w / 2 ^ (j % word_bits))) word_bits x f in
      let fits = next_within x f in
      record {
        least = omega arith;
        most = omega arith;
        absent = λ d a b. ⊎_elim (λ l. none d a l) (λ l. between x fits s.before d l (omega arith)) (side d j);
        present = λ l. let z : r ≡ j + x = omega arith in ap row z ∙ sym (left_is x fits) ∙ s.passes;
      }
    where
      between : (x : ℕ) → j % word_bits + x < word_bits → ((d : ℕ) → d < x → bit (w / 2 ^ (j % word_bits)) d ≡ false)
          → (d : ℕ) → j ≤ d → d < j + x → row d ≡ false
      between x l h d a b =
          let e : j + (d - j) ≡ d = omega arith in
          sym (ap row e) ∙ sym (left_is (d - j) (omega arith)) ∙ h (d - j) (omega arith)

  pub next_none : found_of (first (bit (w / 2 ^ (j % word_bits))) (below word_bits)) ≡ None
      → (d : ℕ) → low ≤ d → d < (j / word_bits + 1) * word_bits → row d ≡ false
  next_none f d a b = ⊎_elim (λ l. none d a l) after (side d j)
    where
      after : j ≤ d → row d ≡ false
      after l =
          let e : j + (d - j) ≡ d = omega arith in
          sym (ap row e) ∙ sym (left_is (d - j) (omega arith))
          ∙ found_nothing (bit (w / 2 ^ (j % word_bits))) word_bits f (d - j) (omega arith)
