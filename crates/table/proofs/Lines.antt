-- What a table from us holds, by its number of rules and by line, and a line put last: its lines are those of its texts, then empty ones. Assumes nothing.
use Prim.Native.Nat.{ℕ, ◌+◌, ◌-◌, ◌≤◌, ◌<◌}
use mathlib.Core.Path.{◌≡◌, sym, ap, ◌∙◌}
use mathlib.Core.List.{List, [], ◌∷◌, ◌++◌, map, map-append}
use native.Mathlib.Omega.{arith}
use lib.ListN.{length, get_or, set, replicate, length-map, drop_of_length-le, length-append}
use Rattle.lists.proofs.Lists.{map_before, set_behind}
use Rattle.table.specs.declared.Line.{Line}
use Rattle.table.specs.declared.Table.{Table}
use Rattle.table.specs.Store.{table_of, rules_of, kept_line}
use Rattle.table.specs.Sheet.{Text}
use Rattle.table.specs.Calls.{FromUs}

-- the lines of a table with rs: those of rs, then empty ones
abbrev pub lines_with : List Text → List Line
lines_with rs = map kept_line rs ++ replicate (16 - length rs) (kept_line [])

abbrev pub line_with : List ℕ → ℕ → Line
line_with bytes n = record { bytes = bytes; len = n }

-- what the logic takes for an element past the end
abbrev pub none : Line
none = line_with [] 0

module _ (t : Table) (v : FromUs t) where
  pub count_is : t.count ≡ length (rules_of t)
  unfolding table_of
  count_is = ap (λ (u : Table). u.count) v.same

  pub count_few : t.count ≤ 16
  count_few = omega (arith, count_is, v.standing.few)

  pub none_stand : t.count ≤ 0 → rules_of t ≡ []
  none_stand h = drop_of_length-le (rules_of t) {i = 0} (omega (arith, count_is))

  pub lines_are : t.lines ≡ lines_with (rules_of t)
  unfolding table_of
  lines_are = ap (λ (u : Table). u.lines) v.same

-- the i-th line of such a table
line_at : (rs : List Text) (i : ℕ) → i < length rs → get_or (lines_with rs) i none ≡ kept_line (get_or rs i [])
line_at rs i h = map_before kept_line rs _ i [] none h

pub line_is : {t : Table} {i : ℕ} → FromUs t → i < t.count → get_or t.lines i none ≡ kept_line (get_or (rules_of t) i [])
line_is {t} {i} v h = ap (λ (ls : List Line). get_or ls i none) (lines_are t v) ∙ line_at (rules_of t) i (omega (arith, count_is t v))

-- a text put last
abbrev pub table_with : List Line → ℕ → Table
table_with ls n = record { lines = ls; count = n }

put_last : (rs : List Text) (s : Text) → length rs < 16 → table_with (set (lines_with rs) (length rs) (kept_line s)) (length rs + 1) ≡ table_of (rs ++ s ∷ [])
unfolding table_of
put_last rs s h =
    let n : length (rs ++ s ∷ []) ≡ length rs + 1 = length-append rs (s ∷ []) in
    let m : 16 - length rs - 1 ≡ 16 - length (rs ++ s ∷ []) = omega (arith, n) in
    let e : set (lines_with rs) (length rs) (kept_line s) ≡ lines_with (rs ++ s ∷ [])
    = set_behind (map kept_line rs) (kept_line []) (kept_line s) (16 - length rs) (length rs) (length-map rs kept_line) (omega arith)
    ∙ ap (λ (k : ℕ). map kept_line rs ++ kept_line s ∷ [] ++ replicate k (kept_line [])) m
    ∙ ap (λ (ls : List Line). ls ++ replicate (16 - length (rs ++ s ∷ [])) (kept_line [])) (sym (map-append kept_line rs (s ∷ []))) in
    ap (λ (ls : List Line). table_with ls (length rs + 1)) e ∙ ap (λ (k : ℕ). table_with (lines_with (rs ++ s ∷ [])) k) (sym n)

-- the table that put_last leaves
pub put_table : (t : Table) (s : Text) (l : Line) → FromUs t → l ≡ kept_line s → t.count < 16
    → table_with (set t.lines t.count l) (t.count + 1) ≡ table_of (rules_of t ++ s ∷ [])
put_table t s l v e h =
    ap (λ (ls : List Line). table_with (set ls t.count l) (t.count + 1)) (lines_are t v)
    ∙ ap (λ (n : ℕ). table_with (set (lines_with (rules_of t)) n l) (n + 1)) (count_is t v)
    ∙ ap (λ (m : Line). table_with (set (lines_with (rules_of t)) (length (rules_of t)) m) (length (rules_of t) + 1)) e
    ∙ put_last (rules_of t) s (omega (arith, count_is t v))
