-- `test_examples::show_why` is safe: the text, and the piece of a tree's, is a part of its buffer. Assumes nothing.
use Rattle.report.proofs.Pieces.{answered_text}
use Rattle.test_examples.proofs.show_why.Goals as goal

pub slice_bounds-text-end : goal.slice_bounds-text-end
slice_bounds-text-end g c = (answered_text _ c.why-told.ensures.answers _ c.in-Text.is).fits
