-- `table::Table::atom_text` meets its contract: the bytes that the table gives, as many as it says (Atoms.antt). Assumes nothing.
use Rattle.table.proofs.Atoms.{length_in, kept_atom}
use mathlib.Core.Path.{ap}
use Rattle.table.proofs.Table.atom_text.Goals as goal

pub returns-in-Ok : goal.returns-in-Ok
returns-in-Ok c = kept_atom _ c.requires.0 _ _ c.zeros-bytes.ensures _ _ c.atom_by-printed.ensures _ (ap length_in c.in-Ok.is)

pub returns-in-Err : goal.returns-in-Err
returns-in-Err c = kept_atom _ c.requires.0 _ _ c.zeros-bytes.ensures _ _ c.atom_by-printed.ensures _ (ap length_in c.in-Err.is)
