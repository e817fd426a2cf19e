-- `why::main` is safe: the text that is told is a part of its buffer. Assumes nothing.
use mathlib.Core.Path.{sym}
use lib.Seq.{length-take-le}
use Rattle.report.proofs.Pieces.{answered_text}
use Rattle.why.proofs.main.Goals as goal

pub slice_bounds-write_all-end : goal.slice_bounds-write_all-end
slice_bounds-write_all-end c = sym (length-take-le _ _ (answered_text _ c.why-told.ensures.answers _ c.in-Text.is).fits)
