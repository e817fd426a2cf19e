-- `report::put_names` meets its contract: so far the names with numbers below i are put. Assumes nothing.
use mathlib.Core.List.{List}
use Prim.Native.Nat.{ℕ, ◌+◌, ◌*◌, ◌≤◌}
use Rattle.lists.specs.Search.{collect, below}
use Rattle.lists.specs.Putting.{Puts}
use Rattle.names.specs.Gather.{known_of}
use Rattle.names.specs.declared.Names.{Names}
use Rattle.report.specs.Lines.{name_if, blanked}
use Rattle.report.proofs.put_names.Given as goal

-- what is put for name i
abbrev pub name_text : Names → ℕ → ℕ → List ℕ
name_text names e i = collect blanked (name_if (known_of names) e i)

abbrev pub invariant-loop-i : goal.invariant-loop-i
invariant-loop-i l =
    Puts l.at (collect (name_text l.names l.e) (below l.i)) l.initial.out l.out l.end × (l.end ≤ l.at + l.i * 17)
