-- `test_examples::show_building` is safe: the text, and the piece of a plan's, is a part of its buffer. Assumes nothing.
use Rattle.report.proofs.Pieces.{answered_text}
use Rattle.test_examples.proofs.show_building.Goals as goal

pub slice_bounds-text-end : goal.slice_bounds-text-end
slice_bounds-text-end g c = (answered_text _ c.report_building-told.ensures.answers _ c.in-Text.is).fits
