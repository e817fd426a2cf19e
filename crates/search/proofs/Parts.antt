-- The first atoms of a row: they have the chart's atoms and the row's marks, fewer of them; so where no piece meets these, none meets all.
-- Assumes nothing.
use mathlib.Core.Bool.{false, not}
use mathlib.Core.Path.{◌≡◌, refl, sym, ap, ap₂, ◌∙◌, subst}
use mathlib.Core.List.{List, [], ◌∷◌}
use mathlib.Mathlib.Data.Bool.Basic.{eq-false_of_not-eq-true}
use Prim.Native.Nat.{ℕ, zero, suc, ◌+◌, ◌/◌, ◌^◌, ◌≤◌, ◌<◌}
use native.Mathlib.Omega.{arith}
use lib.ListN.{length, get_or, take}
use lib.Seq.{length-take-le}
use Rattle.lists.proofs.Truth.{clash}
use Rattle.lists.specs.Search.{In, here, next}
use Rattle.formula.specs.Formula.{Atom}
use Rattle.evalset.specs.Bit.{bit}
use Rattle.evalset.specs.Sets.{mem_at}
use Rattle.evalset.proofs.Bits.{bit_shr}
use Rattle.contact.specs.Row.{Row}
use Rattle.contact.specs.Question.{building}
use Rattle.contact.specs.Plan.{Mark, row_marks}
use Rattle.contact.specs.Pieces.{check_pieces}
use Rattle.contact.proofs.Fewer.{passes_fewer}
use Rattle.search.specs.declared.Chart.{Chart}
use Rattle.search.specs.Rows.{row_bits}
use Rattle.search.specs.Compiled.{AtomIs, no_atom, contact_at, Compiled}
use Rattle.search.specs.Planned.{marks_in}

-- ---- the first k of a list

take_at : {A : Type 0} (xs : List A) (d : A) (k i : ℕ) → i < k → get_or (take k xs) i d ≡ get_or xs i d
take_at xs d zero i l = absurd (omega arith)
take_at [] d (suc k) i l = refl
take_at (x ∷ xs) d (suc k) zero l = refl
take_at (x ∷ xs) d (suc k) (suc i) l = take_at xs d k i (omega arith)

-- the chart of the first k atoms
pub fewer_atoms : (chart : Chart) (atoms : List (Atom ℕ)) (k : ℕ) → k ≤ chart.atoms → Compiled chart atoms
    → Compiled (record { names = chart.names; atoms = k; contact = chart.contact; xs = chart.xs; ys = chart.ys }) (take k atoms)
fewer_atoms chart atoms k l h =
    let long : length (take k atoms) ≡ k = length-take-le k atoms (omega (arith, h.counted)) in
    record {
      few = h.few;
      counted = sym long;
      atom_is = λ i m.
          subst (AtomIs chart.names (contact_at chart i) (mem_at chart.xs i) (mem_at chart.ys i))
          (sym (take_at atoms no_atom k i (omega (arith, long)))) (h.atom_is i (omega (arith, long, h.counted)));
    }

-- ---- the marks of the first atoms are among those of all

pub marks_among : (k : ℕ) (atoms : List (Atom ℕ)) (row : Row) (m : Mark) → In m (row_marks (take k atoms) (take k row)) → In m (row_marks atoms row)
marks_among zero atoms row m x = elim x [ ]
marks_among (suc k) [] row m x = elim x [ ]
marks_among (suc k) (a ∷ atoms) [] m x = elim x [ ]
marks_among (suc k) (a ∷ atoms) (b ∷ row) m here = here
marks_among (suc k) (a ∷ atoms) (b ∷ row) m (next i) = next (marks_among k atoms row m i)

-- the row of the first k atoms of k + d
pub row_prefix : (k d p : ℕ) → row_bits k (p / 2 ^ d) ≡ take k (row_bits (k + d) p)
unfolding row_bits
row_prefix zero d p = refl
row_prefix (suc k) d p =
    let z : d + k ≡ k + d = omega arith in
    let y : suc (k + d) ≡ suc k + d = omega arith in
    ap₂ ◌∷◌ (ap not (bit_shr p d k ∙ ap (bit p) z)) (row_prefix k d p) ∙ ap (λ (n : ℕ). take (suc k) (row_bits n p)) y

-- ---- so no piece meets a row whose first atoms none meets

pub part_fails : (chart : Chart) (atoms : List (Atom ℕ)) (k d p : ℕ) → k + d ≡ chart.atoms
    → check_pieces chart.names (row_marks (take k atoms) (row_bits k (p / 2 ^ d))) ≡ false
    → check_pieces chart.names (marks_in chart atoms p) ≡ false
part_fails chart atoms k d p all h =
    eq-false_of_not-eq-true
    (λ t. clash (passes_fewer chart.names (marks_in chart atoms p) (row_marks (take k atoms) (row_bits k (p / 2 ^ d))) sub building t) h)
  where
    sub : (m : Mark) → In m (row_marks (take k atoms) (row_bits k (p / 2 ^ d))) → In m (marks_in chart atoms p)
    sub m i =
        subst (λ (n : ℕ). In m (row_marks atoms (row_bits n p))) all
        (marks_among k atoms (row_bits (k + d) p) m (subst (λ (row : Row). In m (row_marks (take k atoms) row)) (row_prefix k d p) i))
