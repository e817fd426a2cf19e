-- `report::put_margin` meets its contract: so far the blanks of the levels below this one are put. Assumes nothing.
use mathlib.Core.List.{List}
use Prim.Native.Nat.{ℕ}
use Rattle.lists.specs.Search.{collect, below}
use Rattle.lists.specs.Putting.{Puts}
use Rattle.lexer.specs.Text.{bytes}
use Rattle.report.proofs.put_margin.Given as goal

-- what is put at a level
abbrev pub blanks : ℕ → List ℕ
blanks level = bytes "  "

abbrev pub invariant-loop-level : goal.invariant-loop-level
invariant-loop-level l = Puts l.at (collect blanks (below l.level)) l.initial.out l.out l.end
