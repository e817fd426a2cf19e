-- `supportlog::start` meets its contract. Assumes nothing.
use mathlib.Core.Path.{ap}
use Rattle.table.specs.declared.Table.{Table}
use Rattle.tally.specs.Count.{none}
use Rattle.supportlog.specs.declared.LogState.{LogState}
use Rattle.supportlog.proofs.start.Goals as goal

pub returns : goal.returns
returns c =
    let state : Table → LogState = λ t. record { table = t; tally = none; from = 0; len = 0 } in
    (ap state c.empty-table.ensures.0, c.empty-table.ensures.1)
