-- The rows under a row by number: the values of their atoms are the row's and the bits of the number; sets of such rows, and those that a run
-- of the rules refutes. Assumes nothing.
use mathlib.Core.Bool.{Bool, false, not, ◌&&◌, and-eq-true_iff, not-not}
use mathlib.Core.Path.{◌≡◌, refl, sym, ap, ap₂, ◌∙◌}
use mathlib.Core.List.{List, ◌++◌, map}
use mathlib.Mathlib.Logic.Function.Defs.{congr_fun}
use Prim.Native.Nat.{ℕ, ◌+◌, ◌-◌, ◌^◌, ◌≤◌, ◌<◌}
use native.Mathlib.Omega.{arith}
use lib.ListN.{length, get_or, length-append, length-map, get_or-append, get_or-eq_default}
use lib.Pow.{pow_mono}
use lib.Seq.{get_or-append-add}
use borrow.Author.Tests.{ltb-true, lt-ltb, not-false}
use mathlib.Core.Logic.{⊎_elim}
use Rattle.lists.proofs.Truth.{side}
use Rattle.lists.proofs.Lists.{map_at}
use Rattle.evalset.specs.Bit.{word_levels, bit}
use Rattle.evalset.specs.Sets.{below_in}
use Rattle.evalset.proofs.Bits.{bit_none}
use Rattle.evalset.proofs.Members.{below_in_few}
use Rattle.contact.specs.Row.{is, unknown}
use Rattle.kleene.specs.Rails.{duo, sure, duo_of, word_rows, rails_at}
use Rattle.search.specs.Rows.{row_bits}
use Rattle.search.proofs.Rows.{row_length, row_at}
use Rattle.solver.specs.Coded.{Values, RefutedSays}
use Rattle.solver.specs.Tree.{extended, decided_at, Low, YesLeaves, NoLeaves, UnrefutedSays}

-- ---- the values of the atoms

module _ (k d row e i : ℕ) where
  block_length : length (row_bits k row ++ row_bits d e) ≡ k + d
  block_length = length-append (row_bits k row) (row_bits d e) ∙ ap₂ ◌+◌ (row_length k row) (row_length d e)

  -- of the row itself
  pub value_first : i < k → get_or (extended (row_bits k row) d e) i unknown ≡ is (get_or (row_bits k row) i false)
  value_first l =
      map_at is (row_bits k row ++ row_bits d e) i false unknown (omega (arith, block_length))
      ∙ ap is (get_or-append (row_bits k row) (row_bits d e) false i (omega (arith, row_length k row)))

  pub leaf_first : i < k → decided_at k row d e i ≡ sure (get_or (row_bits k row) i false)
  leaf_first l = ap duo_of (value_first l)

  -- of the block
  pub value_second : k ≤ i → i < k + d → get_or (extended (row_bits k row) d e) i unknown ≡ is (not (bit e (k + d - 1 - i)))
  value_second l m =
      let z : i ≡ length (row_bits k row) + (i - k) = omega (arith, row_length k row) in
      let y : d - 1 - (i - k) ≡ k + d - 1 - i = omega arith in
      map_at is (row_bits k row ++ row_bits d e) i false unknown (omega (arith, block_length))
      ∙ ap is (ap (λ (x : ℕ). get_or (row_bits k row ++ row_bits d e) x false) z
      ∙ get_or-append-add (row_bits k row) (row_bits d e) (i - k) false
      ∙ row_at d e (i - k) (omega arith) ∙ ap (λ (x : ℕ). not (bit e x)) y)

  pub leaf_second : k ≤ i → i < k + d → decided_at k row d e i ≡ duo (not (bit e (k + d - 1 - i))) (bit e (k + d - 1 - i))
  leaf_second l m =
      ap duo_of (value_second l m) ∙ ap (duo (not (bit e (k + d - 1 - i)))) (not-not (bit e (k + d - 1 - i)))

  -- and those past it
  pub leaf_past : k + d ≤ i → decided_at k row d e i ≡ duo false false
  leaf_past l =
      ap duo_of
      (get_or-eq_default (map is (row_bits k row ++ row_bits d e)) unknown {n = i}
      (omega (arith, block_length, length-map (row_bits k row ++ row_bits d e) is)))

-- the rows of a word's levels are in the word
pub in_word : (d e : ℕ) → d ≤ word_levels → e < 2 ^ d → e < word_rows
in_word d e l m = omega (arith, pow_mono {i = d} {j = word_levels} l)

-- ---- sets of rows

-- of the rows with d atoms more, those that pass
pub record RowsAre (d : ℕ) (r : ℕ) (passes : ℕ → Bool) : Type 0 where
  pub low : Low d r
  pub are : (e : ℕ) → e < 2 ^ d → bit r e ≡ passes e

pub rows_are : (d : ℕ) (all r : ℕ) (passes : ℕ → Bool) → d ≤ word_levels → bit all ≡ below_in word_rows d → ((e : ℕ) → bit r e ≡ (bit all e && passes e))
    → RowsAre d r passes
rows_are d all r passes few p q = record {
  low = λ e h.
      ltb-true e (2 ^ d) (sym (below_in_few word_rows word_levels refl d few e) ∙ sym (congr_fun p e) ∙ ((and-eq-true_iff (bit all e) (passes e)).0 (sym (q e) ∙ h)).0);
  are = λ e l. q e ∙ ap (λ (b : Bool). b && passes e) (congr_fun p e ∙ below_in_few word_rows word_levels refl d few e ∙ lt-ltb e (2 ^ d) l);
}

-- the rails of the rows
module _ (row k d : ℕ) (few : d ≤ word_levels) (ts fs : List ℕ) (ys : YesLeaves row k d ts) (ns : NoLeaves (k + d) ts fs) where
  pub rails_are : (e : ℕ) → e < 2 ^ d → Values ts fs e (extended (row_bits k row) d e)
  rails_are e l i = ⊎_elim decided undecided (side i (k + d))
    where
      decided : i < k + d → rails_at ts fs e i ≡ decided_at k row d e i
      decided m = ap (duo (bit (get_or ts i 0) e)) (ns.are i m e (in_word d e few l)) ∙ ys.are i m e l

      undecided : k + d ≤ i → rails_at ts fs e i ≡ decided_at k row d e i
      undecided m =
          ap₂ (λ (x y : ℕ). duo (bit x e) (bit y e)) (ys.none i m) (ns.none i m) ∙ ap₂ duo (bit_none e) (bit_none e)
          ∙ sym (leaf_past k d row e i m)

-- those that one run of the rules does not refute
module _ (code ends ts fs : List ℕ) (row k d : ℕ) (few : d ≤ word_levels)
    (are : (e : ℕ) → e < 2 ^ d → Values ts fs e (extended (row_bits k row) d e)) (out : ℕ) (says : RefutedSays code ends ts fs out) where
  pub unrefuted_rows : (r : ℕ) → RowsAre d r (λ e. not (bit out e)) → UnrefutedSays code ends row k d r
  unfolding RefutedSays
  unrefuted_rows r rows = record {
    low = rows.low;
    refuted = λ many rules coded e l h.
        sym (says many rules coded e (in_word d e few l) (extended (row_bits k row) d e) (are e l))
        ∙ not-false (bit out e) (sym (rows.are e l) ∙ h);
  }
