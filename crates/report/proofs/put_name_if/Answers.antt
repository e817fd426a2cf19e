-- `report::put_name_if` meets its contract: the name is put where its bit is set, and nothing elsewhere. Assumes nothing.
use mathlib.Core.Path.{sym, ◌∙◌}
use native.Mathlib.Omega.{arith}
use Rattle.lists.proofs.Putting.{puts_none, puts_text}
use Rattle.names.specs.Gather.{known_of}
use Rattle.report.proofs.Kept.{name_set, name_clear}
use Rattle.report.proofs.put_name_if.Goals as goal

pub returns-then-lies_in : goal.returns-then-lies_in
returns-then-lies_in c =
    let a = c.args in
    (puts_text (name_set a.names a.i c.requires.0 a.e (sym c.lies_in.ensures ∙ c.if-lies_in.true)) c.put_name.ensures.0, c.put_name.ensures.1)

pub returns-else-lies_in : goal.returns-else-lies_in
returns-else-lies_in c =
    let a = c.args in
    (puts_text (name_clear (known_of a.names) a.e a.i (sym c.lies_in.ensures ∙ c.if-lies_in.false)) (puts_none a.at a.out.now (omega (arith, c.requires.2))), omega arith)
