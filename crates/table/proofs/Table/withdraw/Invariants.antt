-- `table::Table::withdraw` meets its contract: the freed line is cleared first, and so far the lines from k up to i have moved down by one place. Assumes nothing.
use mathlib.Core.List.{[]}
use Prim.Native.Nat.{◌-◌, ◌≤◌}
use mathlib.Core.Path.{◌≡◌}
use lib.ListN.{set}
use Rattle.table.specs.Store.{kept_line}
use Rattle.table.proofs.Shift.{moved}
use Rattle.table.proofs.Table.withdraw.Given as goal

abbrev pub invariant-loop-i : goal.invariant-loop-i
invariant-loop-i l = (l.k ≤ l.i) × (l.i ≤ l.count) × (l.table.lines ≡ set (moved l.self.lines l.k l.i) (l.count - 1) (kept_line []))
