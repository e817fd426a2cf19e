-- `ruleset::names_in` meets its contract: the names before a place and those from it on are all. Assumes nothing.
use native.Mathlib.Omega.{arith}
use lib.ListN.{get_or}
use Rattle.compile.proofs.Steps.{one_at_most}
use Rattle.ruleset.proofs.Counting.{count_step, count_end}
use Rattle.ruleset.proofs.names_in.Goals as goal

pub overflow_add-n : goal.overflow_add-n
overflow_add-n c =
    let loop = c.loop-kind in
    let order = c.args.order.now in
    omega (arith, c.names_of_kind-n.ensures, one_at_most (get_or order loop.kind-index 0))

pub loop-kind-preserved : goal.loop-kind-preserved
loop-kind-preserved c =
    let loop = c.loop-kind in
    let order = c.args.order.now in (
      omega (arith, c.names_of_kind-n.ensures, count_step order loop.kind-index (omega arith)),
      omega (arith, c.names_of_kind-n.ensures, one_at_most (get_or order loop.kind-index 0)),
    )

pub returns : goal.returns
returns c = omega (arith, count_end c.args.order.now c.loop-kind.kind-index (omega arith))
