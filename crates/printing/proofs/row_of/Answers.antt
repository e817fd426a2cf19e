-- `printing::row_of` meets its contract: the tests that were passed are those of the definition. Assumes nothing.
use mathlib.Core.Path.{◌≡◌, sym}
use Prim.Native.Nat.{ℕ, ◌+◌, ◌*◌, ◌≤◌, ◌<◌}
use mathlib.Core.List.{List}
use native.Mathlib.Omega.{arith}
use borrow.Author.Tests.{lt-ltb, le-ltb}
use lib.ListN.{get_or}
use Rattle.printing.specs.Jobs.{table, row_of}
use Rattle.printing.proofs.row_of.Goals as goal

module _ (c l n : ℕ) (rows : List ℕ) (e : rows ≡ table) (w : n ≡ c) where
  entry : get_or rows (n * 8 + 1) 0 ≡ get_or table (c * 8 + 1) 0
  entry = rw (e, w)

  pub looser : c < 6 → get_or rows (n * 8 + 1) 0 < l → n + 19 ≡ row_of c l
  unfolding row_of
  looser h k = let j : get_or table (c * 8 + 1) 0 < l = omega (arith, entry) in rw w (sym (simp (lt-ltb c 6 h, lt-ltb (get_or table (c * 8 + 1) 0) l j)))

  pub tighter : c < 6 → l ≤ get_or rows (n * 8 + 1) 0 → n ≡ row_of c l
  unfolding row_of
  tighter h k = let j : l ≤ get_or table (c * 8 + 1) 0 = omega (arith, entry) in rw w (sym (simp (lt-ltb c 6 h, le-ltb (get_or table (c * 8 + 1) 0) l j)))

  pub other : 6 ≤ c → n ≡ row_of c l
  unfolding row_of
  other h = rw w (sym (simp (le-ltb c 6 h)))

pub returns-then-rows-row : goal.returns-then-rows-row
returns-then-rows-row c = looser _ _ _ _ c.rows-rows.ensures c.wide-row.ensures c.if-kind-lt-MINUS.true c.if-rows-row.true

pub returns-else-rows-row : goal.returns-else-rows-row
returns-else-rows-row c = tighter _ _ _ _ c.rows-rows.ensures c.wide-row.ensures c.if-kind-lt-MINUS.true c.if-rows-row.false

pub returns-else-kind-lt-MINUS : goal.returns-else-kind-lt-MINUS
returns-else-kind-lt-MINUS c = other _ _ _ _ c.rows-rows.ensures c.wide-row.ensures c.if-kind-lt-MINUS.false
