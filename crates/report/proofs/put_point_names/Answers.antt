-- `report::put_point_names` meets its contract: where no byte was put there are no names. Assumes nothing.
use native.Mathlib.Omega.{arith}
use Rattle.lists.proofs.Putting.{puts_text, puts_length, puts_more}
use Rattle.names.specs.Gather.{known_of}
use Rattle.report.proofs.Parts.{no_names, some_names}
use Rattle.report.proofs.put_point_names.Goals as goal

pub put_text-requires : goal.put_text-requires
put_text-requires c = let first = c.put_names-end.ensures in omega (arith, c.requires, c.if-end-at.true, puts_length first.0)

pub returns-then-end-at : goal.returns-then-end-at
returns-then-end-at c =
    let a = c.args in
    let first = c.put_names-end.ensures.0 in
    (puts_text (no_names (known_of a.names) a.e (omega (arith, first.place, c.if-end-at.true))) (puts_more first c.put_text.ensures), omega (arith, c.put_text.ensures.place, c.if-end-at.true))

pub returns-else-end-at : goal.returns-else-end-at
returns-else-end-at c =
    let a = c.args in
    let first = c.put_names-end.ensures in
    (puts_text (some_names (known_of a.names) a.e (omega (arith, first.0.place, c.if-end-at.false))) first.0, first.1)
