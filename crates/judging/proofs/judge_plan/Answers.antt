-- `judging::judge_plan` meets its contract: an uncovered plan is not judged by rules; of another the atoms have their values, and the rules
-- are judged by them. Assumes nothing.
use mathlib.Core.Path.{sym, ◌∙◌}
use mathlib.Core.Logic.{inr}
use borrow.Author.Rules.{rules}
use Rattle.judging.proofs.Judging.{judges_uncovered, judges}
use Rattle.judging.proofs.judge_plan.Goals as goal

pub returns-then-uncovered : goal.returns-then-uncovered
returns-then-uncovered c = judges_uncovered _ _ _ _ (sym c.uncovered.ensures ∙ c.if-uncovered.true)

pub leaves-atoms-requires : goal.leaves-atoms-requires
leaves-atoms-requires c = (c.requires.atoms_fit, inr (search rules))

pub returns : goal.returns
returns c = judges _ _ _ _ _ _ (sym c.uncovered.ensures ∙ c.if-uncovered.false) c.leaves-atoms.ensures c.first_unmet.ensures
