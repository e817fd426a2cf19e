-- `remarks::is_begun` meets its contract, case by case. Assumes nothing.
use borrow.Enum.Refused.{opened}
use mathlib.Core.Path.{sym, ap}
use Rattle.remarks.specs.Remark.{begins}
use Rattle.remarks.proofs.Parts.{begins_none}
use Rattle.remarks.proofs.is_begun.Goals as goal

pub returns-in-GrammarAt : goal.returns-in-GrammarAt
returns-in-GrammarAt c = ap (begins _) (sym c.in-GrammarAt.is)

pub returns-in_default : goal.returns-in_default
returns-in_default c = sym (begins_none c.args.n c.args.answer (opened c.in_default.in_default-own.keys3))
