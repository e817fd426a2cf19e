-- `squares::join_at` meets its contract: a row outside the square is left alone. Assumes nothing.
use native.Mathlib.Omega.{arith}
use Rattle.evalset.specs.Sets.{room}
use Rattle.squares.proofs.Rows.{inside, reach_room, joined_in, joined_beyond}
use Rattle.squares.proofs.join_at.Goals as goal

pub overflow_mul-wide : goal.overflow_mul-wide
unfolding room
overflow_mul-wide c = omega (arith, c.wide.ensures, reach_room c.args.ws.now)

pub join_row-requires : goal.join_row-requires
join_row-requires c = (c.requires, inside c.args.ws.now c.requires c.args.p (omega (arith, c.wide.ensures)))

pub returns-then-p-wide : goal.returns-then-p-wide
returns-then-p-wide c = joined_in _ _ _ _ c.join_row.ensures

pub returns-else-p-wide : goal.returns-else-p-wide
returns-else-p-wide c = joined_beyond _ _ c.args.ws.now (omega (arith, c.wide.ensures))
