-- `table::Table::add` meets its contract: the text is put to what is known of the table's rules, and put last if it is taken. Assumes nothing.
use borrow.Enum.Refused.{opened}
use Rattle.table.proofs.Refusals.{told_refused}
use Rattle.table.proofs.Results.{adds_refused, adds_taken, may_put}
use Rattle.table.proofs.Table.add.Goals as goal

pub returns-in_default : goal.returns-in_default
returns-in_default c = adds_refused _ _ _ _ _ _ _ c.requires c.known-known.ensures c.with_text-answer.ensures (told_refused _ (opened c.in_default.in_default-own.keys2))

pub put_last-table-requires : goal.put_last-table-requires
put_last-table-requires c = may_put _ _ _ _ _ _ _ c.requires c.known-known.ensures c.with_text-answer.ensures c.in-Added.is

pub returns : goal.returns
returns c =
    adds_taken _ _ _ _ _ _ _ c.requires c.known-known.ensures c.with_text-answer.ensures c.in-Added.is
    c.put_last-table.result c.put_last-table.ensures
