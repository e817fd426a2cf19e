-- `solver::shut_to` meets its contract: the first atoms are asked, more of them at each turn, and last the whole row. Assumes nothing.
use Prim.Native.Nat.{◌-◌, ◌^◌}
use native.Mathlib.Nat.{div-le_self}
use native.Mathlib.Omega.{arith}
use Rattle.solver.proofs.Shutting.{shut_none, shut_one, shut_block}
use Rattle.solver.proofs.shut_to.Goals as goal

pub building_of-requires : goal.building_of-requires
building_of-requires c = (c.requires.0, omega arith)

pub overflow_add-result : goal.overflow_add-result
overflow_add-result c = omega (arith, div-le_self c.args.row (2 ^ (c.args.top - c.loop-more.more)))

pub returns-then-not-building_of : goal.returns-then-not-building_of
returns-then-not-building_of c =
    let d = c.args.top - c.loop-more.more in
    shut_block c.args.chart c.args.row d (omega arith) (omega arith) c.requires.3 _ c.building_of.ensures c.if-not-building_of.true

pub returns-then-building : goal.returns-then-building
returns-then-building c = shut_none _ _ _ c.building.ensures c.if-building.true

pub returns-else-building : goal.returns-else-building
returns-else-building c = shut_one _ _ _ c.building.ensures c.if-building.false
