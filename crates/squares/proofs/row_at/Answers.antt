-- `squares::row_at` meets its contract: a row outside the square has no bits. Assumes nothing.
use mathlib.Core.Path.{sym, ◌∙◌}
use native.Mathlib.Omega.{arith}
use Rattle.evalset.specs.Sets.{room}
use Rattle.squares.proofs.Rows.{inside, outside, reach_room}
use Rattle.squares.proofs.row_at.Goals as goal

pub overflow_mul-wide : goal.overflow_mul-wide
unfolding room
overflow_mul-wide c = omega (arith, c.wide.ensures, reach_room c.args.ws.now)

pub row_of-requires : goal.row_of-requires
row_of-requires c = (c.requires, inside c.args.ws.now c.requires c.args.p (omega (arith, c.wide.ensures)))

pub returns-else-p-wide : goal.returns-else-p-wide
returns-else-p-wide c = c.empty.ensures ∙ sym (outside c.args.ws.now c.requires c.args.p (omega (arith, c.wide.ensures)))
