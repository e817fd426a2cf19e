-- `table::Table::judge` meets its contract: the words are read first, and a plan is judged by the compiled rules. Assumes nothing.
use Rattle.table.proofs.Compiled.{reached_all}
use Rattle.table.proofs.Asking.{judges_none, judges_words, judges_plan}
use Rattle.table.proofs.Table.judge.Goals as goal

pub returns-then-count-le0 : goal.returns-then-count-le0
returns-then-count-le0 c = judges_none _ c.requires _ c.if-count-le0.true

pub returns-in-Ok : goal.returns-in-Ok
returns-in-Ok c =
    let by = c.judgement-answer.ensures in
    judges_plan _ c.requires _ c.if-count-le0.false _ c.in-Ok.ensures _ _ _
    (reached_all c.args.self by.compiling by.code c.requires by.compiled) _ by.says

pub returns-in-Err : goal.returns-in-Err
returns-in-Err c = judges_words _ c.requires _ c.if-count-le0.false _ c.in-Err.ensures
