-- Withdraw's loop and the table that it leaves: the last line is cleared, and each other takes the place before it. Assumes nothing.
use Prim.Native.Nat.{ℕ, suc, ◌+◌, ◌-◌, ◌≤◌, ◌<◌}
use mathlib.Core.Path.{◌≡◌, refl, sym, ap, ◌∙◌}
use mathlib.Core.List.{List, [], ◌∷◌, ◌++◌, map, map-append}
use native.Mathlib.Omega.{arith}
use lib.ListN.{length, take, drop, get_or, set, replicate, length-map, length-append, length-take, length-drop, length-replicate}
use lib.Seq.{paste, paste-zero, paste-suc, get_or-drop, drop-cons, set_at, take_at, drop_at, take-append-le, drop-append-le}
use Rattle.lists.proofs.Lists.{map_take, map_drop}
use Rattle.table.specs.declared.Line.{Line}
use Rattle.table.specs.declared.Table.{Table}
use Rattle.table.specs.Store.{table_of, rules_of, kept_line}
use Rattle.table.specs.Sheet.{Text}
use Rattle.table.specs.Calls.{without, FromUs}
use Rattle.table.proofs.Lines.{count_is, lines_are, lines_with, table_with}

-- the lines after those from k up to i have moved down
abbrev pub moved : List Line → ℕ → ℕ → List Line
moved ls k i = paste ls (k - 1) (drop k ls) (i - k)

moved_next : (ls : List Line) (k i : ℕ) (d : Line) → 1 ≤ k → k ≤ i → i < length ls → set (moved ls k i) (i - 1) (get_or ls i d) ≡ moved ls k (i + 1)
moved_next ls k i d pos low h =
    let e : i ≡ k + (i - k) = omega arith in
    let a : i - 1 ≡ k - 1 + (i - k) = omega arith in
    let b : suc (i - k) ≡ i + 1 - k = omega arith in
    ap (λ (x : Line). set (moved ls k i) (i - 1) x) (ap (λ (n : ℕ). get_or ls n d) e ∙ sym (get_or-drop k ls (i - k) d))
    ∙ ap (λ (n : ℕ). set (moved ls k i) n (get_or (drop k ls) (i - k) d)) a
    ∙ paste-suc ls (k - 1) (drop k ls) (i - k) d (omega arith) (simp length-drop (omega arith))
    ∙ ap (λ (n : ℕ). paste ls (k - 1) (drop k ls) n) b

pub moved_none : (ls : List Line) (k : ℕ) → ls ≡ moved ls k k
moved_none ls k =
    let e : 0 ≡ k - k = omega arith in
    paste-zero ls (k - 1) (drop k ls) ∙ ap (λ (n : ℕ). paste ls (k - 1) (drop k ls) n) e

-- two places are written in either order
swapped : (ls : List Line) (i j : ℕ) (a b : Line) → i < j → set (set ls j a) i b ≡ set (set ls i b) j a
swapped [] i j a b h = refl
swapped (l ∷ ls) i ℕ.zero a b h = absurd (omega arith)
swapped (l ∷ ls) ℕ.zero (suc j) a b h = refl
swapped (l ∷ ls) (suc i) (suc j) a b h = ap {B = List Line} (λ (k : List Line). l ∷ k) (swapped ls i j a b (omega arith))

-- the same where the last line has been cleared before
pub moved_cleared : (ls : List Line) (k i n : ℕ) (d : Line) → 1 ≤ k → k ≤ i → i < n → n ≤ length ls
    → set (set (moved ls k i) (n - 1) (kept_line [])) (i - 1) (get_or ls i d) ≡ set (moved ls k (i + 1)) (n - 1) (kept_line [])
moved_cleared ls k i n d pos low h high =
    swapped (moved ls k i) (i - 1) (n - 1) (kept_line []) (get_or ls i d) (omega arith)
    ∙ ap (λ (l : List Line). set l (n - 1) (kept_line [])) (moved_next ls k i d pos low (omega arith))

module _ (rs : List Text) (k : ℕ) (pos : 1 ≤ k) (high : k ≤ length rs) (few : length rs ≤ 16) where
  left_length : length (without rs (k - 1)) ≡ length rs - 1
  unfolding without
  left_length = simp (length-append, length-take, length-drop) (omega arith)

  left_lines : map kept_line (without rs (k - 1)) ≡ take (k - 1) (map kept_line rs) ++ drop k (map kept_line rs)
  unfolding without
  left_lines =
      let e : suc (k - 1) ≡ k = omega arith in
      map-append kept_line (take (k - 1) rs) (drop (suc (k - 1)) rs)
      ∙ ap (λ (l : List Line). l ++ map kept_line (drop (suc (k - 1)) rs)) (map_take kept_line (k - 1) rs)
      ∙ ap (λ (n : ℕ). take (k - 1) (map kept_line rs) ++ map kept_line (drop n rs)) e
      ∙ ap (λ (l : List Line). take (k - 1) (map kept_line rs) ++ l) (map_drop kept_line k rs)

  -- what stays of the lines of rs, without the last
  kept : List Line
  kept = take (k - 1) (map kept_line rs) ++ drop k (map kept_line rs)

  kept_length : length kept ≡ length rs - 1
  unfolding kept
  kept_length = ap length (sym left_lines) ∙ length-map (without rs (k - 1)) kept_line ∙ left_length

  kept_lines : kept ≡ map kept_line (without rs (k - 1))
  unfolding kept
  kept_lines = sym left_lines

  moved_all : moved (lines_with rs) k (length rs)
      ≡ kept ++ get_or (lines_with rs) (length rs - 1) (kept_line []) ∷ replicate (16 - length rs) (kept_line [])
  unfolding kept
  moved_all =
      let m : List Line = map kept_line rs in
      let pad : List Line = replicate (16 - length rs) (kept_line []) in
      let n : length m ≡ length rs = length-map rs kept_line in
      let a : take (k - 1) (m ++ pad) ≡ take (k - 1) m = take-append-le (k - 1) m pad (omega (arith, n)) in
      let d : length (drop k m) ≡ length rs - k = simp (length-drop, length-map) refl in
      let b : take (length rs - k) (drop k (m ++ pad)) ≡ drop k m
      = ap (λ (l : List Line). take (length rs - k) l) (drop-append-le k m pad (omega (arith, n))) ∙ take_at (drop k m) pad (length rs - k) d in
      let f : k - 1 + (length rs - k) ≡ length rs - 1 = omega arith in
      let g : suc (length rs - 1) ≡ length rs = omega arith in
      let q : length (m ++ pad) ≡ length rs + (16 - length rs) = simp (length-append, length-map, length-replicate) refl in
      let z : Line = get_or (m ++ pad) (length rs - 1) (kept_line []) in
      let r : drop (length rs - 1) (m ++ pad) ≡ z ∷ pad
      = drop-cons (m ++ pad) (length rs - 1) (kept_line []) (omega (arith, q)) ∙ ap (λ (j : ℕ). z ∷ drop j (m ++ pad)) g ∙ ap {B = List Line} (λ (l : List Line). z ∷ l) (drop_at m pad (length rs) n) in
      ap (λ (l : List Line). l ++ take (length rs - k) (drop k (m ++ pad)) ++ drop (k - 1 + (length rs - k)) (m ++ pad)) a
      ∙ ap (λ (l : List Line). take (k - 1) m ++ l ++ drop (k - 1 + (length rs - k)) (m ++ pad)) b
      ∙ ap (λ (j : ℕ). take (k - 1) m ++ drop k m ++ drop j (m ++ pad)) f
      ∙ ap (λ (l : List Line). take (k - 1) m ++ drop k m ++ l) r

  taken_out : table_with (set (moved (lines_with rs) k (length rs)) (length rs - 1) (kept_line [])) (length rs - 1) ≡ table_of (without rs (k - 1))
  unfolding table_of
  taken_out =
      let w : List Text = without rs (k - 1) in
      let pad : List Line = replicate (16 - length rs) (kept_line []) in
      let e : suc (16 - length rs) ≡ 16 - length w = omega (arith, left_length) in
      let f : set (moved (lines_with rs) k (length rs)) (length rs - 1) (kept_line []) ≡ lines_with w
      = ap (λ (l : List Line). set l (length rs - 1) (kept_line [])) moved_all
      ∙ set_at kept (get_or (lines_with rs) (length rs - 1) (kept_line [])) pad (kept_line []) (length rs - 1) kept_length
      ∙ ap (λ (l : List Line). l ++ kept_line [] ∷ pad) kept_lines
      ∙ ap (λ (j : ℕ). map kept_line w ++ replicate j (kept_line [])) e in
      ap (λ (l : List Line). table_with l (length rs - 1)) f ∙ ap (λ (j : ℕ). table_with (lines_with w) j) (sym left_length)

-- what withdraw leaves where it is not refused
pub left_table : (t : Table) (k : ℕ) (ls : List Line) → FromUs t → 1 ≤ k → k ≤ t.count → ls ≡ moved t.lines k t.count
    → table_with (set ls (t.count - 1) (kept_line [])) (t.count - 1) ≡ table_of (without (rules_of t) (k - 1))
left_table t k ls v pos high e =
    ap (λ (l : List Line). table_with (set l (t.count - 1) (kept_line [])) (t.count - 1)) e
    ∙ ap (λ (l : List Line). table_with (set (moved l k t.count) (t.count - 1) (kept_line [])) (t.count - 1)) (lines_are t v)
    ∙ ap (λ (n : ℕ). table_with (set (moved (lines_with (rules_of t)) k n) (n - 1) (kept_line [])) (n - 1)) (count_is t v)
    ∙ taken_out (rules_of t) k pos (omega (arith, count_is t v)) v.standing.few

pub lines_length : (t : Table) → FromUs t → length t.lines ≡ 16
lines_length t v =
    ap length (lines_are t v) ∙ simp (length-append, length-map, length-replicate) (omega (arith, v.standing.few))
