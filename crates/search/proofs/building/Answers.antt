-- `search::building` meets its contract: at most six names have 64 evaluations, and eight 256. Assumes nothing.
use native.Mathlib.Omega.{arith}
use Rattle.squares.proofs.Rows.{clear_words, few_square, many_square, few_reach, many_reach}
use Rattle.search.specs.Building.{BuildingIn, BuildingSays}
use Rattle.search.proofs.building.Goals as goal

pub building_in-requires : goal.building_in-requires
building_in-requires c = (c.requires, few_square, clear_words 64)

pub returns-then-chart-le6 : goal.returns-then-chart-le6
unfolding BuildingSays BuildingIn
returns-then-chart-le6 c = λ atoms h. c.building_in.ensures atoms h (few_reach c.args.chart.names (omega arith))

pub building_in-requires-2 : goal.building_in-requires-2
building_in-requires-2 c = (c.requires, many_square, clear_words 1024)

pub returns : goal.returns
unfolding BuildingSays BuildingIn
returns c = λ atoms h. c.building_in-2.ensures atoms h (many_reach c.args.chart.names h.few)
