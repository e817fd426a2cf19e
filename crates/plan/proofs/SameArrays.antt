-- Arrays that hold a plan are determined by it: rows with the same positions are the same words. So reading is one function of the
-- words. Assumes nothing.
use mathlib.Core.Path.{◌≡◌, sym, ap, ap₂, ◌∙◌, subst}
use mathlib.Core.Bool.{Bool}
use mathlib.Core.List.{List}
use Prim.Native.Nat.{ℕ, ◌+◌, ◌*◌, ◌/◌, ◌%◌, ◌^◌, ◌<◌}
use native.Mathlib.Omega.{arith}
use lib.ListN.{length, get_or}
use lib.Seq.{ext_get_or}
use Rattle.std.specs.Prelude.{Result, Ok, Err}
use Rattle.evalset.specs.Bit.{word_bits, bit}
use Rattle.evalset.proofs.Bits.{same_bits}
use Rattle.squares.specs.Square.{wide, square_at}
use Rattle.squares.proofs.Rows.{wide_is, word_in}
use Rattle.plan.specs.declared.PlanArrays.{PlanArrays}
use Rattle.plan.specs.declared.NotAPlan.{NotAPlan}
use Rattle.plan.specs.Words.{Plan}
use Rattle.plan.specs.Reader.{Reading, plan, refused, read_of}
use Rattle.plan.specs.Arrays.{Reads}
use Rattle.plan.specs.Stored.{Stored}

-- what the type says of each value of it: so many words, each of 64 bits
pub record InRange (r : PlanArrays) : Type 0 where
  pub rows : length r.rows ≡ 1024
  pub words : (i : ℕ) → get_or r.rows i 0 < 2 ^ word_bits

-- the words of the larger square by their bits
same_rows : (r s : PlanArrays) → InRange r → InRange s → square_at r.rows ≡ square_at s.rows → r.rows ≡ s.rows
same_rows r s v w e =
    ext_get_or 0 r.rows s.rows (v.rows ∙ sym w.rows) (λ i l.
    let z : 4 * (i / 4) + i % 4 ≡ i = omega arith in
    same_bits word_bits (get_or r.rows i 0) (get_or s.rows i 0) (v.words i) (w.words i) (λ b m.
    sym (ap (λ (j : ℕ). bit (get_or r.rows j 0) b) z) ∙ word_in r.rows 4 (i / 4) (four r v) (i % 4) (omega arith) b m
    ∙ ap (λ (t : ℕ → ℕ → Bool). t (i / 4) (word_bits * (i % 4) + b)) e
    ∙ sym (word_in s.rows 4 (i / 4) (four s w) (i % 4) (omega arith) b m) ∙ ap (λ (j : ℕ). bit (get_or s.rows j 0) b) z))
  where
    four : (r : PlanArrays) → InRange r → wide r.rows ≡ 4
    four r v = wide_is r.rows (λ z. omega (arith, z, v.rows))

stored_once : (p : Plan) (r s : PlanArrays) → InRange r → InRange s → Stored r p → Stored s p → r ≡ s
stored_once p r s v w a b =
    ap₂ (λ (x y : ℕ). arrays x y r.points r.rows) (a.names ∙ sym b.names) (a.count ∙ sym b.count)
    ∙ ap₂ (arrays s.names s.count) (a.points ∙ sym b.points) (same_rows r s v w (a.rows ∙ sym b.rows))
  where
    arrays : ℕ → ℕ → List ℕ → List ℕ → PlanArrays
    arrays x y z u = record { names = x; count = y; points = z; rows = u }

-- the same of arrays that were read, where there are any
abbrev pub InRangeIf : Result PlanArrays NotAPlan → Type 0
InRangeIf (Ok r) = InRange r
InRangeIf (Err e) = Unit {0}

-- a plan is no refusal
pub told_apart : (ws : List ℕ) (p : Plan) (i : ℕ) → read_of ws ≡ plan p → read_of ws ≡ refused i → ⊥
told_apart ws p i a b = subst IsPlanRead (sym a ∙ b) tt
  where
    IsPlanRead : Reading → Type 0
    IsPlanRead (plan p) = Unit {0}
    IsPlanRead (refused i) = ⊥

pub reads_once : (ws : List ℕ) (r s : Result PlanArrays NotAPlan) → InRangeIf r → InRangeIf s → Reads ws r → Reads ws s → r ≡ s
reads_once ws (Ok r) (Ok s) v w a b =
    let z : plan a.0 ≡ plan b.0 = sym a.1 ∙ b.1 in
    let e : a.0 ≡ b.0 = cc in
    ap Ok (stored_once b.0 r s v w (subst (Stored r) e a.2) b.2)
reads_once ws (Ok r) (Err f) v w a b = absurd (told_apart ws a.0 f.at a.1 b)
reads_once ws (Err e) (Ok s) v w a b = absurd (told_apart ws b.0 e.at b.1 a)
reads_once ws (Err e) (Err f) v w a b =
    let z : refused e.at ≡ refused f.at = sym a ∙ b in
    let q : e.at ≡ f.at = cc in
    ap (λ (x : ℕ). Err (record { at = x })) q
