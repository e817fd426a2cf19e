-- `remarks::expected_at` meets its contract: the first that can stand is among those that are still to be tried. Assumes nothing.
use mathlib.Core.Path.{◌≡◌}
use lib.ListN.{drop}
use Rattle.lists.specs.Search.{first}
use Rattle.remarks.specs.declared.Expected.{Expected}
use Rattle.remarks.specs.Remark.{can_stand, spelling, tried, or_nothing, expected_at}
use Rattle.remarks.proofs.expected_at.Given as goal

abbrev pub invariant-loop-i : goal.invariant-loop-i
invariant-loop-i l = or_nothing (first (λ (e : Expected). can_stand l.text l.place (spelling e)) (drop l.i tried)) ≡ expected_at l.text l.place
