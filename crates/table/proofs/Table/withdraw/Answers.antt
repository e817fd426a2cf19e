-- `table::Table::withdraw` meets its contract: the freed line is cleared first, and so far the lines from k up to i have moved down by one place. Assumes nothing.
use Prim.Native.Nat.{ℕ, ◌-◌, ◌≤◌}
use mathlib.Core.Path.{◌≡◌, refl, ap, ◌∙◌}
use mathlib.Core.List.{[], List}
use lib.ListN.{length, get_or, set}
use Rattle.table.specs.declared.Line.{Line}
use Rattle.table.specs.Store.{rules_of, kept_line}
use Rattle.table.proofs.Results.{withdraw_zero, withdraw_high, withdraw_good, withdrawn_by}
use Rattle.table.proofs.Lines.{none, count_is, count_few, table_with}
use Rattle.table.proofs.Shift.{moved, moved_none, moved_cleared, left_table, lines_length}
use native.Mathlib.Omega.{arith}
use Rattle.table.proofs.Table.withdraw.Goals as goal

pub returns-then-k-le0 : goal.returns-then-k-le0
returns-then-k-le0 c = withdrawn_by c.args.self _ _ _ c.requires (withdraw_zero _ _ c.if-k-le0.true) c.requires.same

pub returns-then-count-k : goal.returns-then-count-k
returns-then-count-k c =
    let t = c.args.self in
    withdrawn_by t _ _ _ c.requires (withdraw_high (rules_of t) _ c.if-k-le0.false (omega (arith, count_is t c.requires))) c.requires.same

pub offset_bounds-freed-count : goal.offset_bounds-freed-count
offset_bounds-freed-count c = omega (arith, count_few c.args.self c.requires)

pub bounds-freed-count : goal.bounds-freed-count
bounds-freed-count c = omega (arith, count_few c.args.self c.requires)

pub loop-i-init : goal.loop-i-init
loop-i-init c =
    let t = c.args.self in (
      omega arith,
      omega arith,
      ap (λ (l : Line). set t.lines (t.count - 1) l) c.no_line-none.ensures
          ∙ ap (λ (ls : List Line). set ls (t.count - 1) (kept_line [])) (moved_none t.lines c.args.k),
    )

pub offset_bounds-self-i : goal.offset_bounds-self-i
offset_bounds-self-i c = omega (arith, count_few c.args.self c.requires)

pub bounds-self-i : goal.bounds-self-i
bounds-self-i c = omega (arith, count_few c.args.self c.requires)

pub offset_bounds-table-i : goal.offset_bounds-table-i
offset_bounds-table-i c = omega (arith, count_few c.args.self c.requires)

pub bounds-table-i : goal.bounds-table-i
bounds-table-i c = omega (arith, count_few c.args.self c.requires)

pub loop-i-preserved : goal.loop-i-preserved
loop-i-preserved c =
    let t = c.args.self in
    let i = c.loop-i.i in
    let inv = c.loop-i.invariant in
    let h : t.count ≤ length t.lines = omega (arith, lines_length t c.requires, count_few c.args.self c.requires) in (
      omega arith,
      omega arith,
      ap (λ (ls : List Line). set ls (i - 1) (get_or t.lines i none)) inv.2
          ∙ moved_cleared t.lines c.args.k i t.count none (omega arith) inv.0 (omega arith) h,
    )

pub returns : goal.returns
returns c =
    let t = c.args.self in
    let k = c.args.k in
    let v = c.requires in
    let e : c.loop-i.i ≡ t.count = omega arith in
    withdrawn_by t _ k _ v (withdraw_good (rules_of t) k (omega arith) (omega (arith, count_is t v)))
    (ap (λ (ls : List Line). table_with ls (t.count - 1)) (c.loop-i.invariant.2 ∙ ap (λ (n : ℕ). set (moved t.lines k n) (t.count - 1) (kept_line [])) e)
    ∙ left_table t k (moved t.lines k t.count) v (omega arith) (omega arith) refl)
