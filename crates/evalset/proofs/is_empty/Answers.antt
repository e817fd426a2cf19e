-- `evalset::is_empty` meets its contract: a set is empty exactly if it has no least member.
-- Assumes nothing.
use mathlib.Core.Bool.{not, not-not}
use mathlib.Core.Path.{sym, ap, ◌∙◌}
use Rattle.std.specs.Option.{is_some}
use Rattle.lists.specs.Search.{below}
use Rattle.evalset.specs.Sets.{mem, room}
use Rattle.evalset.proofs.Walk.{found_any}
use Rattle.evalset.proofs.is_empty.Goals as goal

pub returns : goal.returns
returns c = sym (not-not _) ∙ ap not (sym c.is_none.ensures ∙ ap is_some c.least.ensures ∙ found_any (mem c.args.s) (below room))
