-- `table::Table::clash` meets its contract: what is found of the compiled rules is the answer. Assumes nothing.
use Rattle.table.proofs.Compiled.{reached_all}
use Rattle.table.proofs.Clashing.{clashes_none, clashes_by}
use Rattle.table.proofs.Table.clash.Goals as goal

pub returns-then-count-le0 : goal.returns-then-count-le0
returns-then-count-le0 c = clashes_none _ c.requires _ c.if-count-le0.true

pub returns : goal.returns
returns c =
    let by = c.clashed-found.ensures in
    clashes_by _ c.requires _ c.if-count-le0.false _ _ _ (reached_all c.args.self by.compiling by.code c.requires by.compiled) _ _ by.says _
    c.clashed_answer-answer.ensures
