-- `report::why_piece` meets its contract: it is that of `put_piece`. Assumes nothing.
use Rattle.report.proofs.why_piece.Goals as goal

pub returns : goal.returns
returns c = c.put_piece.ensures
