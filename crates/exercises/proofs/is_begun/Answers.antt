-- `exercises::is_begun` meets its contract. Assumes nothing.
use Rattle.std.specs.Prelude.{Err}
use mathlib.Core.Path.{ap, ◌∙◌}
use Rattle.syntax.specs.declared.NotAFormula.{NotAFormula}
use Rattle.exercises.proofs.Judging.{is_begun}
use Rattle.exercises.proofs.is_begun.Goals as goal

pub returns-in-Ok : goal.returns-in-Ok
returns-in-Ok c = is_begun _ _ c.judged.ensures _ c.in-Ok.is

pub returns-in-Err-At : goal.returns-in-Err-At
returns-in-Err-At c = is_begun _ _ c.judged.ensures (Err (NotAFormula.At c.in-Err-At.i)) (c.in-Err-At.is ∙ ap Err c.in-Err-At.field-0-is)

pub returns-in-Err-TooMany : goal.returns-in-Err-TooMany
returns-in-Err-TooMany c = is_begun _ _ c.judged.ensures (Err NotAFormula.TooMany) (c.in-Err-TooMany.is ∙ ap Err c.in-Err-TooMany.field-0-is)
