-- `report::put_lines` meets its contract: so far the lines of the rules before place i are put (AsRead.antt). Assumes nothing.
use Rattle.lists.specs.Putting.{Puts}
use Rattle.table.specs.Store.{rules_of}
use Rattle.report.proofs.AsRead.{lines_to}
use Rattle.report.proofs.put_lines.Given as goal

abbrev pub invariant-loop-i : goal.invariant-loop-i
invariant-loop-i l = Puts 0 (lines_to (rules_of l.table) l.i) l.initial.out l.out l.end
