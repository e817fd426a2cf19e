-- `table::put_last` meets its contract: the first empty line takes the text. Assumes nothing.
use Rattle.table.proofs.Lines.{put_table}
use Rattle.table.proofs.put_last.Goals as goal

pub returns : goal.returns
returns c = put_table c.args.table _ _ c.requires.0 c.line_of-line.ensures c.requires.1
