-- `table::load_outcome` meets its contract: each arm knows its answer, whose outcome the definition gives; a refused line's is add's, on that line. Assumes nothing.
use mathlib.Core.Path.{sym, ap, ◌∙◌}
use Rattle.table.specs.Numbers.{on_line, load_outcome}
use Rattle.table.proofs.load_outcome.Goals as goal

pub returns-in-Line : goal.returns-in-Line
returns-in-Line c = c.on_line.ensures ∙ ap (on_line _) c.add_outcome.ensures ∙ sym (ap load_outcome c.in-Line.is)
