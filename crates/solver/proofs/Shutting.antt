-- Rows that no piece meets: where none meets the first atoms of a row, none meets any row of the block that begins so (`part_fails` of search).
-- Assumes nothing.
use mathlib.Core.Bool.{Bool, true, false}
use mathlib.Core.Path.{◌≡◌, sym, ap, ◌∙◌, subst}
use Prim.Native.Nat.{ℕ, ◌+◌, ◌-◌, ◌*◌, ◌/◌, ◌%◌, ◌^◌, ◌≤◌, ◌<◌}
use native.Mathlib.Nat.{mod-eq_of_lt, div-mul-le_self, lt-div-mul-add, div-eq_of_lt-le}
use native.Mathlib.Omega.{arith}
use lib.ListN.{take}
use lib.Pow.{pow_mono, pow_pos}
use Rattle.contact.specs.Question.{building}
use Rattle.contact.specs.Plan.{row_marks}
use Rattle.contact.specs.Pieces.{check_pieces}
use Rattle.search.specs.declared.Chart.{Chart}
use Rattle.search.specs.Rows.{row_bits}
use Rattle.search.specs.Planned.{marks_in}
use Rattle.search.specs.Building.{BuildingSays, PartSays}
use Rattle.search.proofs.Parts.{part_fails}
use Rattle.solver.specs.Tree.{counts, Shut, ShutTo}

-- fewer rows
pub shut_less : (chart : Chart) (from more end : ℕ) → from ≤ more → Shut chart from end → Shut chart more end
shut_less chart from more end l h atoms k f a b = h atoms k f (omega arith) b

module _ (chart : Chart) (row : ℕ) where
  pub shut_none : (r : Bool) → BuildingSays chart row r → r ≡ true → ShutTo chart row row
  shut_none r says z =
      record {
        on = omega arith;
        shut = λ atoms h f a b. absurd (omega arith);
        met = λ q. subst (BuildingSays chart row) z says;
      }

  pub shut_one : (r : Bool) → BuildingSays chart row r → r ≡ false → ShutTo chart row (row + 1)
  unfolding BuildingSays
  shut_one r says z =
      record {
        on = omega arith;
        shut = λ atoms h f a b.
            let e : f ≡ row = omega arith in
            ap (λ (x : ℕ). counts building chart.names (marks_in chart atoms x)) e ∙ sym (says atoms h) ∙ z;
        met = λ q. absurd (omega arith);
      }

  pub shut_passed : (till : ℕ) → row < till → Shut chart row till → ShutTo chart row till
  shut_passed till l h = record { on = omega arith; shut = h; met = λ q. absurd (omega arith) }

  -- the row itself, where the end is another
  pub shut_row : (end : ℕ) → ShutTo chart row end → (end ≡ row → ⊥) → BuildingSays chart row false
  unfolding BuildingSays
  shut_row end s ne = λ atoms h. sym (s.shut atoms h row (omega arith) (omega (arith, s.on, ne)))

  -- the block of the rows that begin so
  module _ (d : ℕ) (few : d ≤ 6) (within : d ≤ chart.atoms) (small : row < 4294967296) (r : Bool)
      (says : PartSays chart (chart.atoms - d) (row / 2 ^ d) r) (fails : r ≡ false) where
    first : row / 2 ^ d * 2 ^ d ≤ row
    first = div-mul-le_self row (2 ^ d)

    wide : (row / 2 ^ d + 1) * 2 ^ d ≡ row / 2 ^ d * 2 ^ d + 2 ^ d
    wide = omega arith

    last : row < (row / 2 ^ d + 1) * 2 ^ d
    last = let l : row < row / 2 ^ d * 2 ^ d + 2 ^ d = lt-div-mul-add (pow_pos d) in omega (arith, l, wide)

    end_is : ((row / 2 ^ d + 1) * 2 ^ d) % 18446744073709551616 ≡ (row / 2 ^ d + 1) * 2 ^ d
    end_is = mod-eq_of_lt (let l = pow_mono {i = d} {j = 6} few in omega (arith, l, wide, first))

    block : Shut chart row ((row / 2 ^ d + 1) * 2 ^ d)
    unfolding PartSays
    block atoms h f a b =
        let same : f / 2 ^ d ≡ row / 2 ^ d = div-eq_of_lt-le (2 ^ d) (omega (arith, first)) b in
        part_fails chart atoms (chart.atoms - d) d f (omega arith)
        (subst (λ (x : ℕ). check_pieces chart.names (row_marks (take (chart.atoms - d) atoms) (row_bits (chart.atoms - d) x)) ≡ false) (sym same)
        (sym (says atoms h) ∙ fails))

    pub shut_block : ShutTo chart row (((row / 2 ^ d + 1) * 2 ^ d) % 18446744073709551616)
    shut_block =
        subst (ShutTo chart row) (sym end_is)
        (record { on = omega (arith, last); shut = block; met = λ q. absurd (omega (arith, last)) })
