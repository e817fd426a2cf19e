-- `supportlog::tallied_by` meets its contract. Assumes nothing.
use mathlib.Core.Path.{ap, ◌∙◌}
use Rattle.tally.specs.Count.{counted_of}
use Rattle.supportlog.proofs.tallied_by.Goals as goal

pub returns : goal.returns
returns c = c.counted.ensures ∙ ap (counted_of _) c.kind_of-kind.ensures
