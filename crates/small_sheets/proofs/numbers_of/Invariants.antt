-- `small_sheets::numbers_of` is safe: the numbers so far are few. Assumes nothing.
use Rattle.small_sheets.specs.Bounds.{Few}
use Rattle.small_sheets.proofs.numbers_of.Given as goal

abbrev pub invariant-loop-p : goal.invariant-loop-p
invariant-loop-p g l = Few l.numbers
