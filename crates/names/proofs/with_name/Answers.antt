-- `names::with_name` meets its contract: a name whose number is that of a known one is there already, and another is stored behind
-- them. Assumes nothing.
use Rattle.names.specs.Steps.{push}
use Rattle.names.proofs.Scans.{name_there, name_new}
use Rattle.names.proofs.with_name.Goals as goal

pub returns-then-number-count : goal.returns-then-number-count
returns-then-number-count c = let a = c.args in name_there a.names a.w.now a.number c.if-number-count.true

pub returns : goal.returns
unfolding push
returns c =
    let a = c.args in
    name_new a.names a.w.now a.number c.if-number-count.false c.name_of-name.result c.name_of-name.ensures
