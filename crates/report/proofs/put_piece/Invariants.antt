-- `report::put_piece` meets its contract: so far the lines from the index to the next are put (Pieces.antt). Assumes nothing.
use Prim.Native.Nat.{◌-◌, ◌≤◌}
use Rattle.lists.specs.Putting.{Puts}
use Rattle.report.specs.Pieces.{lines_from}
use Rattle.report.proofs.Pieces.{Fits}
use Rattle.report.proofs.put_piece.Given as goal

abbrev pub invariant-loop-next : goal.invariant-loop-next
invariant-loop-next g l =
    Puts 0 (lines_from (g.L.WordLines.line l.lines) l.from (l.next - l.from)) l.initial.out l.out l.end
    × Fits (g.L.WordLines.line l.lines) l.count l.from l.next l.end × (l.count ≤ l.from → l.next ≤ l.from)
