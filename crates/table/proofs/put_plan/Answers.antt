-- `table::put_plan` meets its contract: the square has room for the evaluations of the names. Assumes nothing.
use native.Mathlib.Omega.{arith}
use Rattle.squares.proofs.Rows.{clear_words, few_square, few_reach, many_square, many_reach}
use Rattle.table.proofs.put_plan.Goals as goal

pub put_plan_in-requires : goal.put_plan_in-requires
put_plan_in-requires c =
    (c.requires.0, c.requires.1, record { square = few_square; clear = clear_words 64; wide = few_reach c.args.c.known.atoms.chart.names (omega arith) })

pub put_plan_in-requires-2 : goal.put_plan_in-requires-2
put_plan_in-requires-2 c =
    (c.requires.0, c.requires.1, record { square = many_square; clear = clear_words 1024; wide = many_reach c.args.c.known.atoms.chart.names c.requires.0 })
