-- `table::Table::still` meets its contract: the answer by the compiled rules is the call's. Assumes nothing.
use Rattle.table.proofs.Compiled.{reached_all}
use Rattle.table.proofs.Still.{stills_none, stills_by}
use Rattle.table.proofs.Table.still.Goals as goal

pub returns-then-count-le0 : goal.returns-then-count-le0
returns-then-count-le0 c = stills_none _ c.requires _ c.if-count-le0.true

pub returns : goal.returns
returns c =
    let by = c.in_hand-answer.ensures in
    stills_by _ c.requires _ c.if-count-le0.false _ _ _ (reached_all c.args.self by.compiling by.code c.requires by.compiled) _ by.says
