-- `table::blank_line` meets its contract: the lexer answers for the line as a text. Assumes nothing.
use mathlib.Core.Path.{◌∙◌}
use Rattle.table.proofs.Scan.{blank_line_lem}
use Rattle.table.proofs.blank_line.Goals as goal

pub returns : goal.returns
returns c = c.all_blank.ensures ∙ blank_line_lem _
