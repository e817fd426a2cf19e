-- `table::Table::explain` meets its contract: the writer's answer by the compiled rules is the answer. Assumes nothing.
use Rattle.table.proofs.Compiled.{reached_all}
use Rattle.table.proofs.Explaining.{explains_none, explains_told}
use Rattle.table.proofs.Table.explain.Goals as goal

pub returns-then-count-le0 : goal.returns-then-count-le0
returns-then-count-le0 c = explains_none _ c.requires _ c.if-count-le0.true

pub returns : goal.returns
returns c =
    let by = c.told-told.ensures in
    explains_told _ c.requires _ c.if-count-le0.false _ _ _ (reached_all c.args.self by.compiling by.code c.requires by.compiled) _ _ by.told _
    c.explanation_answer-answer.ensures
