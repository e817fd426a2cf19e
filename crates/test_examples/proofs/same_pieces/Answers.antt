-- `test_examples::same_pieces` is safe and ends: what was compared is within the text, and each piece goes on to a later word. Assumes nothing.
use mathlib.Core.Path.{sym}
use native.Mathlib.Omega.{arith}
use lib.Seq.{length-take-le}
use Rattle.test_examples.proofs.same_pieces.Goals as goal

-- src/main.rt:313:25
pub slice_bounds-bytes-end : goal.slice_bounds-bytes-end
slice_bounds-bytes-end c = c.building_piece-piece.ensures.reports.fits

-- src/main.rt:313:25
pub slice_bounds-same-end : goal.slice_bounds-same-end
slice_bounds-same-end c = sym (length-take-le _ _ c.building_piece-piece.ensures.reports.fits)

-- src/main.rt:306:5
pub loop-next-smaller : goal.loop-next-smaller
loop-next-smaller c = omega (arith, c.building_piece-piece.ensures.forward (omega arith))
