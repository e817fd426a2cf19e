-- `exercises::judged` meets its contract: so far the kinds of the first i tokens are there. Assumes nothing.
use mathlib.Core.Path.{◌≡◌}
use lib.ListN.{take}
use Rattle.lists.specs.Padded.{pad}
use Rattle.exercises.proofs.KindRows.{kinds_of}
use Rattle.exercises.proofs.judged.Given as goal

abbrev pub invariant-loop-i : goal.invariant-loop-i
invariant-loop-i l = l.kinds ≡ pad 6 (kinds_of (take l.i l.ks))
