-- `printing::push` meets its contract: what is lent of the table are the jobs of the row, at most seven. Assumes nothing.
use mathlib.Core.Path.{◌≡◌, refl, sym, ap, ◌∙◌}
use mathlib.Core.Bool.{true}
use mathlib.Core.List.{List}
use Prim.Native.Nat.{ℕ, ◌+◌, ◌-◌, ◌*◌, ◌≤◌, ◌<◌}
use native.Mathlib.Omega.{arith}
use borrow.Author.Tests.{leb-true}
use lib.Dec.{leb}
use lib.ListN.{length, take, drop, get_or, length-drop}
use lib.Seq.{sets, length-take-le}
use Rattle.lists.specs.Search.{all, below}
use Rattle.lists.proofs.Below.{all_at}
use Rattle.printing.specs.Jobs.{table, jobs_at}
use Rattle.printing.proofs.push.Goals as goal

at_most_seven : all (λ r. leb (get_or table (r * 8) 0) 7) (below 25) ≡ true
unfolding table
at_most_seven = refl

table_long : length table ≡ 200
unfolding table
table_long = refl

module _ (r n : ℕ) (rows : List ℕ) (h : r < 25) (e : rows ≡ table) (w : n ≡ get_or rows (r * 8) 0) where
  count : n ≡ get_or table (r * 8) 0
  count = w ∙ ap (λ (l : List ℕ). get_or l (r * 8) 0) e

  short : n ≤ 7
  short = omega (arith, count, leb-true (get_or table (r * 8) 0) 7 (all_at (λ r. leb (get_or table (r * 8) 0) 7) 25 at_most_seven r h))

  jobs : take (r * 8 + 1 + n - (r * 8 + 1)) (drop (r * 8 + 1) rows) ≡ jobs_at r
  unfolding jobs_at
  jobs = let z : r * 8 + 1 + n - (r * 8 + 1) ≡ get_or table (r * 8) 0 = omega (arith, count) in rw (z, e)

  many : n ≡ length (jobs_at r)
  unfolding jobs_at
  many = count ∙ sym (length-take-le (get_or table (r * 8) 0) (drop (r * 8 + 1) table) (omega (arith, short, count, length-drop (r * 8 + 1) table, table_long)))

pub overflow_add-end : goal.overflow_add-end
overflow_add-end c = omega (arith, short _ _ _ c.requires.0 c.rows-rows.ensures c.wide-n.ensures)

pub slice_bounds-put-end : goal.slice_bounds-put-end
slice_bounds-put-end c = omega (arith, short _ _ _ c.requires.0 c.rows-rows.ensures c.wide-n.ensures)

pub put-requires : goal.put-requires
put-requires c = rw (jobs _ _ _ c.requires.0 c.rows-rows.ensures c.wide-n.ensures) c.requires.1

pub overflow_add-result : goal.overflow_add-result
overflow_add-result c = omega (arith, short _ _ _ c.requires.0 c.rows-rows.ensures c.wide-n.ensures)

pub returns : goal.returns
returns c = (
  ap (λ (n : ℕ). c.args.height + n) (many _ _ _ c.requires.0 c.rows-rows.ensures c.wide-n.ensures),
  c.put.ensures ∙ ap (sets c.args.stack.now c.args.height) (jobs _ _ _ c.requires.0 c.rows-rows.ensures c.wide-n.ensures),
)
