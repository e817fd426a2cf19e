-- `judging::uncovered` meets its contract. Assumes nothing.
use mathlib.Core.Bool.{not}
use mathlib.Core.Path.{◌≡◌, ap, ◌∙◌}
use native.Mathlib.Omega.{arith}
use borrow.Author.Tests.{eq-eqb}
use Rattle.judging.proofs.Judging.{uncovered_none, uncovered_named}
use Rattle.judging.proofs.uncovered.Goals as goal

pub returns-then-plan-ne0 : goal.returns-then-plan-ne0
returns-then-plan-ne0 c = uncovered_named _ (omega arith)

pub returns-else-plan-ne0 : goal.returns-else-plan-ne0
returns-else-plan-ne0 c =
    let none : c.args.plan.names ≡ 0 = omega arith in
    ap not (eq-eqb c.args.plan.names 0 none) ∙ uncovered_none c.args.plan none
