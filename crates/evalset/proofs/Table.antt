-- The rule of a table of masks, 'bit e of mask i is bit i of e': one test that antt computes over the whole table, and a law that
-- carries it to each entry and each evaluation. Assumes nothing.
use mathlib.Core.Path.{◌≡◌, sym, ap, ◌∙◌}
use mathlib.Core.Bool.{Bool, true, ◌&&◌, beq, and-eq-true_iff}
use mathlib.Core.List.{List}
use mathlib.Core.Logic.{⊎_elim}
use Prim.Native.Nat.{ℕ, ◌^◌, ◌≤◌, ◌<◌}
use lib.Dec.{ltb}
use lib.ListN.{length, get_or}
use borrow.Author.Tests.{ltb-true, lt-ltb, le-ltb}
use Rattle.lists.proofs.Below.{all_at}
use Rattle.evalset.specs.Bit.{word_bits, bit}
use Rattle.lists.specs.Search.{all, below}
use Rattle.evalset.specs.Sets.{name_in}
use Rattle.lists.proofs.Truth.{beq_same, side}
use Rattle.lists.proofs.Entries.{every, at}
use Rattle.evalset.proofs.Bits.{bit_above}

-- x is a word whose bit e is bit i of e
abbrev is_mask : ℕ → ℕ → Bool
is_mask i x = ltb x (2 ^ word_bits) && all (λ e. beq (bit x e) (bit e i)) (below word_bits)

mask : (i x : ℕ) → is_mask i x ≡ true → (e : ℕ) → bit x e ≡ name_in word_bits i e
mask i x t e = ⊎_elim low high (side e word_bits)
  where
    parts : (ltb x (2 ^ word_bits) ≡ true) × (all (λ d. beq (bit x d) (bit d i)) (below word_bits) ≡ true)
    parts = (and-eq-true_iff (ltb x (2 ^ word_bits)) (all (λ d. beq (bit x d) (bit d i)) (below word_bits))).0 t

    low : e < word_bits → bit x e ≡ name_in word_bits i e
    low l =
        beq_same (bit x e) (bit e i) (all_at (λ d. beq (bit x d) (bit d i)) word_bits parts.1 e l)
        ∙ sym (ap (λ (b : Bool). b && bit e i) (lt-ltb e word_bits l))

    high : word_bits ≤ e → bit x e ≡ name_in word_bits i e
    high l =
        bit_above word_bits x e (ltb-true x (2 ^ word_bits) parts.0) l ∙ sym (ap (λ (b : Bool). b && bit e i) (le-ltb e word_bits l))

pub mask_bits : (xs : List ℕ) → every is_mask 0 xs ≡ true → (i : ℕ) → i < length xs → (e : ℕ) → bit (get_or xs i 0) e ≡ name_in word_bits i e
mask_bits xs t i h e = mask i (get_or xs i 0) (at is_mask xs t i h) e
