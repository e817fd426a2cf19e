-- `table::place_of` meets its contract: there is no such atom, or its sign is sought in the code. Assumes nothing.
use Rattle.table.proofs.Atoms.{place_none, place_found}
use Rattle.table.proofs.place_of.Goals as goal

pub returns-then-c-which : goal.returns-then-c-which
returns-then-c-which c = place_none _ _ _ c.if-c-which.true

pub returns : goal.returns
returns c = place_found _ _ _ _ c.if-c-which.false c.first_writing.ensures
