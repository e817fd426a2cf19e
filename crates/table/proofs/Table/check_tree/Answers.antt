-- `table::Table::check_tree` meets its contract: the checker's verdict by the compiled rules is the answer. Assumes nothing.
use Rattle.table.proofs.Compiled.{reached_all}
use Rattle.table.proofs.Explaining.{checks_none, checks_verdict}
use Rattle.table.proofs.Table.check_tree.Goals as goal

pub returns-then-count-le0 : goal.returns-then-count-le0
returns-then-count-le0 c = checks_none _ c.requires _ c.if-count-le0.true

pub returns : goal.returns
returns c =
    let by = c.tree_checked-verdict.ensures in
    checks_verdict _ c.requires _ c.if-count-le0.false _ _ _ (reached_all c.args.self by.compiling by.code c.requires by.compiled) _ by.verdict _
    c.verdict_answer-answer.ensures
