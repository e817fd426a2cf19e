-- The array of bits is filled place by place: a row's bit is its test, which by the table of its block is the row's check. A place from 2 ^ m up
-- to 2 ^ (m + 1) is that of a row of m atoms and of no other. Assumes nothing.
use mathlib.Core.Bool.{Bool, true, false, ◌&&◌, ◌||◌, or-false, and-true, and-false}
use mathlib.Core.Path.{◌≡◌, refl, sym, ap, ap₂, ◌∙◌, subst}
use mathlib.Core.List.{List, [], ◌∷◌}
use mathlib.Core.Logic.{⊎_elim}
use Prim.Native.Nat.{ℕ, suc, ◌+◌, ◌-◌, ◌*◌, ◌/◌, ◌%◌, ◌^◌, ◌≤◌, ◌<◌}
use native.Mathlib.Nat.{mod-lt, mod-eq_of_lt, div-add-mod', zero-lt-suc, pow-suc}
use native.Mathlib.Decide.{ℕ_discrete as dec_eq}
use native.Mathlib.Omega.{arith}
use lib.Bits.{bit_or}
use lib.Dec.{eqb}
use lib.ListN.{length, get_or, set, take, length-set}
use lib.Pow.{pow-add, pow_mono, pow_pos}
use lib.Seq.{get_or-set_same, get_or-set_other}
use borrow.Author.Tests.{eq-eqb, ne_eqb}
use Rattle.formula.specs.Formula.{Atom}
use Rattle.lists.proofs.Truth.{side}
use Rattle.evalset.specs.Bit.{bit}
use Rattle.evalset.proofs.Bits.{bit_add}
use Rattle.contact.specs.Row.{Row}
use Rattle.contact.specs.Plan.{row_marks}
use Rattle.contact.specs.Check.{check}
use Rattle.search.specs.Rows.{row_bits, row_number}
use Rattle.search.proofs.Rows.{row_back, number_below}
use Rattle.search.specs.declared.Chart.{Chart}
use Rattle.search.specs.Compiled.{limit, contact_at}
use Rattle.pairing.specs.Words.{Spelt, Serving, lone, row_test, Judges}
use Rattle.pairing.specs.Listed.{seen_at, ListSays}
use Rattle.pairing.proofs.Claims.{contacts_are}
use Rattle.solver.specs.Coded.{part}
use Rattle.solver.proofs.Places.{under_fits, start_is}
use Rattle.prefixes.specs.Heap.{place_under, place_of, Checks, ChecksSay}
use Rattle.prefixes.specs.Filled.{Marked, Tested, FilledTo, Fills}

-- ---- one bit

module _ (bits : List ℕ) (h : ℕ) where
  pub unmarked : Marked h false bits bits
  unmarked = record {
    long = refl;
    bits = λ j. sym (or-false (seen_at bits j)) ∙ ap (λ (b : Bool). seen_at bits j || b) (sym (and-false (eqb j h)));
  }

  abbrev word : ℕ
  word = bit_or (get_or bits (h / 64) 0) ((1 * 2 ^ (h % 64)) % 18446744073709551616)

  pub marked : h / 64 < length bits → Marked h true bits (set bits (h / 64) word)
  marked l = record {
    long = length-set bits (h / 64) word;
    bits = λ j. go j (dec_eq (j / 64) (h / 64)) ∙ ap (λ (b : Bool). seen_at bits j || b) (sym (and-true (eqb j h)));
  }
    where
      same : (j : ℕ) → j / 64 ≡ h / 64 → Dec (j ≡ h) → eqb (j % 64) (h % 64) ≡ eqb j h
      same j z (yes q) = eq-eqb (j % 64) (h % 64) (ap (λ (x : ℕ). x % 64) q) ∙ sym (eq-eqb j h q)
      same j z (no q) =
          ne_eqb (j % 64) (h % 64) (λ y. q (omega (arith, z, y, div-add-mod' j 64, div-add-mod' h 64))) ∙ sym (ne_eqb j h q)

      go : (j : ℕ) → Dec (j / 64 ≡ h / 64) → seen_at (set bits (h / 64) word) j ≡ (seen_at bits j || eqb j h)
      go j (yes z) =
          ap (λ (x : ℕ). bit x (j % 64)) (ap (λ (x : ℕ). get_or (set bits (h / 64) word) x 0) z ∙ get_or-set_same bits (h / 64) word 0 l)
          ∙ bit_add 64 (get_or bits (h / 64) 0) (h % 64) (j % 64) (mod-lt h (zero-lt-suc 63))
          ∙ ap₂ ◌||◌ (ap (λ (x : ℕ). bit (get_or bits x 0) (j % 64)) (sym z)) (same j z (dec_eq j h))
      go j (no z) =
          ap (λ (x : ℕ). bit x (j % 64)) (get_or-set_other bits (h / 64) (j / 64) word 0 z)
          ∙ sym (or-false (seen_at bits j))
          ∙ ap (λ (b : Bool). seen_at bits j || b) (sym (ne_eqb j h (λ q. z (ap (λ (x : ℕ). x / 64) q))))

-- ---- rows that are tested

module _ (test : ℕ → Bool) (top start : ℕ) where
  pub tested_none : (bits : List ℕ) → Tested test top start start bits bits
  tested_none bits = record {
    long = refl;
    under = λ h l. refl;
    here = λ row l m. absurd (omega arith);
    over = λ h l. refl;
  }

  pub tested_more : (end : ℕ) (before bits after : List ℕ) → start ≤ end → Tested test top start end before bits → Marked (top + end) (test end) bits after
      → Tested test top start (end + 1) before after
  tested_more end before bits after l t m = record {
    long = m.long ∙ t.long;
    under = λ h k. other h (λ q. omega arith) ∙ t.under h k;
    here = λ row k n. each row k n (dec_eq row end);
    over = λ h k. other h (λ q. omega arith) ∙ t.over h (omega arith);
  }
    where
      other : (h : ℕ) → (h ≡ top + end → ⊥) → seen_at after h ≡ seen_at bits h
      other h n = m.bits h ∙ ap (λ (b : Bool). seen_at bits h || (b && test end)) (ne_eqb h (top + end) n) ∙ or-false (seen_at bits h)

      each : (row : ℕ) → start ≤ row → row < end + 1 → Dec (row ≡ end) → seen_at after (top + row) ≡ (seen_at before (top + row) || test row)
      each row k n (yes q) =
          m.bits (top + row)
          ∙ ap (λ (b : Bool). seen_at bits (top + row) || (b && test end)) (eq-eqb (top + row) (top + end) (ap (λ (x : ℕ). top + x) q))
          ∙ ap₂ ◌||◌ (t.over (top + row) (omega arith)) (ap test (sym q))
      each row k n (no q) = other (top + row) (λ z. q (omega arith)) ∙ t.here row k (omega (arith, q))

-- ---- places

-- the places of the rows of m atoms
pub one_level : (m n row : ℕ) → row < 2 ^ n → 2 ^ m ≤ 2 ^ n + row → 2 ^ n + row < 2 * 2 ^ m → n ≡ m
one_level m n row l a b =
    ⊎_elim (λ h. absurd (omega (arith, pow_mono {i = suc n} {j = m} h, pow-suc 2 n)))
    (λ h. ⊎_elim (λ k. absurd (omega (arith, pow_mono {i = suc m} {j = n} k, pow-suc 2 m))) (λ k. omega arith) (side m n)) (side n m)

-- the tests of rows of m atoms are their checks
pub filled_more : (names : ℕ) (atoms : List (Atom ℕ)) (test : ℕ → Bool) (m start end : ℕ) (before after : List ℕ) → m ≤ length atoms → end ≤ 2 ^ m
    → ((row : ℕ) → start ≤ row → row < end → test row ≡ check names (row_marks atoms (row_bits m row)))
    → Tested test (2 ^ m) start end before after → start ≤ end → FilledTo names atoms (2 ^ m + start) before → FilledTo names atoms (2 ^ m + end) after
filled_more names atoms test m start end before after few l tests t s f = record {
  are = λ n row a b c. ⊎_elim (λ h. t.under (2 ^ n + row) h ∙ f.are n row a b h) (λ h. new n row b c h) (side (2 ^ n + row) (2 ^ m + start));
  none = λ h k. t.over h k ∙ f.none h (omega arith);
}
  where
    new : (n row : ℕ) → row < 2 ^ n → 2 ^ n + row < 2 ^ m + end → 2 ^ m + start ≤ 2 ^ n + row
        → seen_at after (2 ^ n + row) ≡ check names (row_marks atoms (row_bits n row))
    new n row b c h =
        let z : n ≡ m = one_level m n row b (omega arith) (omega arith) in
        let y : 2 ^ n ≡ 2 ^ m = ap (λ (x : ℕ). 2 ^ x) z in
        ap (λ (x : ℕ). seen_at after (x + row)) y
        ∙ t.here row (omega arith) (omega arith)
        ∙ ap (λ (b : Bool). b || test row) (f.none (2 ^ m + row) (omega arith))
        ∙ tests row (omega arith) (omega arith)
        ∙ ap (λ (x : ℕ). check names (row_marks atoms (row_bits x row))) (sym z)

-- the rows under a row of k atoms
under_top : (k d row : ℕ) → row < 2 ^ k → (row + 1) * 2 ^ d ≤ 2 ^ (k + d)
under_top k d row fits =
    let l = under_fits k d row (2 ^ d - 1) fits (omega (arith, pow_pos d)) in
    omega (arith, l, pow_pos d)

power_is : (d : ℕ) → d ≤ 16 → (1 * 2 ^ d) % 18446744073709551616 ≡ 2 ^ d
power_is d l =
    let z : 1 * 2 ^ d ≡ 2 ^ d = omega arith in
    ap (λ (x : ℕ). x % 18446744073709551616) z ∙ mod-eq_of_lt (omega (arith, pow_mono {i = d} {j = 16} l))

-- their numbers and places, as the code has them
pub record Places (k d row start size top : ℕ) : Type 0 where
  pub start_is : start ≡ row * 2 ^ d
  pub end_is : start + size ≡ (row + 1) * 2 ^ d
  pub top_is : top ≡ 2 ^ (k + d)
  pub fits : start + size ≤ top
  pub small : top ≤ 65536

pub places : (k d row : ℕ) → k + d ≤ 16 → row < 2 ^ k
    → Places k d row ((row * 2 ^ d) % 18446744073709551616) ((1 * 2 ^ d) % 18446744073709551616) ((1 * 2 ^ (k + d)) % 18446744073709551616)
places k d row few fits =
    let a = start_is k d row few fits in
    let b = power_is d (omega arith) in
    let c = power_is (k + d) few in
    let e : (row * 2 ^ d) % 18446744073709551616 + (1 * 2 ^ d) % 18446744073709551616 ≡ (row + 1) * 2 ^ d = omega (arith, a, b) in
    record {
      start_is = a;
      end_is = e;
      top_is = c;
      fits = omega (arith, e, c, under_top k d row fits);
      small = omega (arith, c, pow_mono {i = k + d} {j = 16} few);
    }

-- a block, by its table
pub block_fills : (ws : List ℕ) (contacts s k d row : ℕ) (table : List ℕ) (some : Bool) (low top start end : ℕ) (before after : List ℕ)
    → row < 2 ^ k → some ≡ lone s ws → low ≡ 2 ^ d - 1 → top ≡ 2 ^ (k + d) → start ≡ row * 2 ^ d → end ≡ (row + 1) * 2 ^ d
    → Judges ws contacts s d row table → Tested (row_test table some (contacts / 2 ^ s) low) top start end before after
    → Fills ws contacts (k + d + s) (2 ^ (k + d) + row * 2 ^ d) (2 ^ (k + d) + (row + 1) * 2 ^ d) before after
unfolding Judges
block_fills ws contacts s k d row table some low top start end before after fits a b t u v judges tested = record {
  long = tested.long;
  fills = λ names atoms g f.
      filled_more names atoms (row_test table some (contacts / 2 ^ s) low) (k + d) (row * 2 ^ d) ((row + 1) * 2 ^ d) before after
      (omega (arith, g.counted)) (under_top k d row fits)
      (λ p l m.
      let e : ℕ = p - row * 2 ^ d in
      let z : p ≡ row * 2 ^ d + e = omega arith in
      let y : e < 2 ^ d = omega (arith, m, l, more) in
      ap₂ (λ (x : Bool) (q : ℕ). row_test table x (contacts / 2 ^ s) q p) a b
      ∙ ap (row_test table (lone s ws) (contacts / 2 ^ s) (2 ^ d - 1)) z
      ∙ judges names atoms k g.counted (omega (arith, g.counted, g.few)) fits g.contacts_are g.serving e y
      ∙ ap (λ (x : ℕ). check names (row_marks atoms (row_bits (k + d) x))) (sym z))
      (subst (λ (x : ℕ). Tested (row_test table some (contacts / 2 ^ s) low) x (row * 2 ^ d) ((row + 1) * 2 ^ d) before after) t
      (subst (λ (x : ℕ). Tested (row_test table some (contacts / 2 ^ s) low) top x ((row + 1) * 2 ^ d) before after) u
      (subst (λ (x : ℕ). Tested (row_test table some (contacts / 2 ^ s) low) top start x before after) v tested)))
      (omega (arith, more)) f;
}
  where
    more : (row + 1) * 2 ^ d ≡ row * 2 ^ d + 2 ^ d
    more = omega arith

-- ---- one after the other

module _ {ws : List ℕ} {contacts n : ℕ} where
  pub fills_none : (a : ℕ) (bits : List ℕ) → Fills ws contacts n a a bits bits
  fills_none a bits = record { long = refl; fills = λ names atoms g f. f }

  pub fills_more : {a b c d : ℕ} {x y z : List ℕ} → Fills ws contacts n a b x y → Fills ws contacts n b c y z → c ≡ d → Fills ws contacts n a d x z
  fills_more {z = z} f g e = record {
    long = g.long ∙ f.long;
    fills = λ names atoms s h. subst (λ (p : ℕ). FilledTo names atoms p z) e (g.fills names atoms s (f.fills names atoms s h));
  }

-- the blocks of k + d atoms end where those of one atom more begin
pub blocks_end : (k d row : ℕ) → k ≤ 16 → row ≡ (1 * 2 ^ k) % 18446744073709551616 → 2 ^ (k + d) + row * 2 ^ d ≡ 2 * 2 ^ (k + d)
blocks_end k d row few e =
    let y : row * 2 ^ d ≡ 2 ^ k * 2 ^ d = ap (λ (x : ℕ). x * 2 ^ d) (e ∙ power_is k few) in
    omega (arith, y, pow-add 2 k d)

pub row_fits : (k row : ℕ) → k ≤ 16 → row < (1 * 2 ^ k) % 18446744073709551616 → row < 2 ^ k
row_fits k row few l = omega (arith, power_is k few)

pub next_power : (m : ℕ) → 2 * 2 ^ m ≡ 2 ^ (m + 1)
next_power m = let z : suc m ≡ m + 1 = omega arith in omega (arith, pow-suc 2 m, ap (λ (x : ℕ). 2 ^ x) z)

-- ---- all rows

-- the place of a row by its number
pub place_is : (h : ℕ) (row : Row) → place_under h row ≡ h * 2 ^ length row + row_number row
unfolding place_under row_number
place_is h [] = omega arith
place_is h (true ∷ row) =
    let z : h * 2 ^ suc (length row) ≡ 2 * h * 2 ^ length row = ap (λ (x : ℕ). h * x) (pow-suc 2 (length row)) ∙ omega arith in
    place_is (2 * h) row ∙ ap (λ (x : ℕ). x + row_number row) (sym z)
place_is h (false ∷ row) =
    let z : h * 2 ^ suc (length row) ≡ 2 * h * 2 ^ length row = ap (λ (x : ℕ). h * x) (pow-suc 2 (length row)) ∙ omega arith in
    place_is (2 * h + 1) row ∙ omega (arith, z)

pub filled_checks : (names : ℕ) (atoms : List (Atom ℕ)) (n : ℕ) (bits : List ℕ) → n ≡ length atoms → FilledTo names atoms (2 * 2 ^ n) bits
    → Checks names atoms bits
unfolding Checks
filled_checks names atoms n bits e f row l =
    let z : place_of row ≡ 2 ^ length row + row_number row = place_is 1 row ∙ omega arith in
    ap (seen_at bits) z
    ∙ f.are (length row) (row_number row) l (number_below row)
    (omega (arith, number_below row, pow_mono {i = length row} {j = n} (omega arith)))
    ∙ ap (λ (r : Row). check names (row_marks atoms r)) (row_back row)

-- of all atoms that a chart comes from
pub all_checked : (chart : Chart) (contacts : ℕ) (list list' : List ℕ) (count : ℕ) (before after : List ℕ) → chart.atoms ≤ limit
    → Spelt chart.atoms (contact_at chart) contacts → ListSays chart list list' count → ((h : ℕ) → seen_at before h ≡ false)
    → Fills (part list' 0 count) contacts chart.atoms 1 (2 * 2 ^ chart.atoms) before after → ChecksSay chart after
unfolding ChecksSay
all_checked chart contacts list list' count before after few spelt says clear f = λ atoms h.
    let z : count ≡ count - 0 = omega arith in
    filled_checks chart.names atoms chart.atoms after h.counted
    (f.fills chart.names atoms
    (record {
      counted = h.counted;
      few = few;
      contacts_are = contacts_are chart atoms contacts h spelt;
      serving = subst (λ (x : ℕ). Serving chart.names atoms (take x list')) z (says.are atoms h);
    })
    (record { are = λ m row a b l. absurd (omega (arith, pow_pos m)); none = λ j l. clear j }))
