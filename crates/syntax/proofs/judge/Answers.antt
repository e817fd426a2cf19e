-- `syntax::judge` meets its contract: it is the parse of the kinds, without the order. Assumes nothing.
use mathlib.Core.Path.{refl}
use Rattle.syntax.proofs.Judging.{too_many, value_judged, refused_judged}
use Rattle.syntax.proofs.judge.Goals as goal

pub returns-then-kinds-gt256 : goal.returns-then-kinds-gt256
returns-then-kinds-gt256 c = λ xs e. too_many xs _ e c.if-kinds-gt256.true

pub returns-in-Ok : goal.returns-in-Ok
returns-in-Ok c = λ xs e. let read = c.in-Ok.ensures xs e refl in value_judged xs _ e c.if-kinds-gt256.false read.0 read.2

pub returns-in-Err : goal.returns-in-Err
returns-in-Err c = λ xs e. refused_judged xs _ e c.if-kinds-gt256.false _ (c.in-Err.ensures xs e refl)
