-- `search::building_of` meets its contract: the first atoms have a chart of their own. Assumes nothing.
use lib.ListN.{take}
use Rattle.search.specs.Building.{BuildingSays, PartSays}
use Rattle.search.proofs.Parts.{fewer_atoms}
use Rattle.search.proofs.building_of.Goals as goal

pub returns : goal.returns
unfolding PartSays BuildingSays
returns c = λ atoms h.
    c.building.ensures (take c.args.k atoms) (fewer_atoms c.args.chart atoms c.args.k c.requires.1 h)
