-- `supportlog::line_end` meets its contract: the lines from the start on are those of what is left, with what was passed in front of the first.
-- Assumes nothing.
use Prim.Native.Nat.{◌-◌}
use mathlib.Core.Path.{◌≡◌}
use lib.ListN.{take, drop}
use Rattle.table.proofs.Scan.{on_head}
use Rattle.supportlog.specs.Lines.{split_log}
use Rattle.supportlog.proofs.line_end.Given as goal

abbrev pub invariant-loop-i : goal.invariant-loop-i
invariant-loop-i l = on_head (take (l.i - l.from) (drop l.from l.log)) (split_log (drop l.i l.log)) ≡ split_log (drop l.from l.log)
