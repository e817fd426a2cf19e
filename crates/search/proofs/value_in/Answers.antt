-- `search::value_in` meets its contract: the bit that stands for the atom is clear where it is true. Assumes nothing.
use Rattle.search.proofs.Rows.{row_read}
use Rattle.search.proofs.value_in.Goals as goal

pub returns : goal.returns
returns c = row_read c.args.k c.args.row c.args.i c.requires.0
