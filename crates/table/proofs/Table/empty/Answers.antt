-- `table::Table::empty` meets its contract: its lines are all empty, and the list of no rule can stand. Assumes nothing.
use mathlib.Core.List.{[]}
use mathlib.Core.Path.{◌≡◌, sym, ap, subst}
use lib.ListN.{replicate}
use Rattle.table.specs.declared.Line.{Line}
use Rattle.table.specs.Store.{table_of}
use Rattle.table.specs.Calls.{FromUs}
use Rattle.table.proofs.Stored.{from_us_table}
use Rattle.table.proofs.Lines.{table_with}
use Rattle.table.proofs.Standing.{stand_none}
use Rattle.table.proofs.Table.empty.Goals as goal

pub returns : goal.returns
unfolding table_of
returns c =
    let e : _ ≡ table_of [] = ap (λ (line : Line). table_with (replicate 16 line) 0) c.no_line-line.ensures in
    (e, subst FromUs (sym e) (from_us_table [] stand_none))
