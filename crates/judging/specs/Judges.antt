-- For proofs: the contract of `judge_plan`, which only our own crates call: what judging a plan ensures, of all rules that the chart and
-- the code may be of. Assumes nothing.
use Rattle.std.specs.Prelude.{◌≡◌, cond, List, ℕ}
use Rattle.formula.specs.Formula.{Formula, Name}
use Rattle.contact.specs.Numbering.{numbered_atoms, row_atoms}
use Rattle.search.specs.declared.Chart.{Chart}
use Rattle.plan.specs.declared.PlanArrays.{PlanArrays}
use Rattle.plan.specs.Words.{Plan, IsPlan}
use Rattle.plan.specs.Stored.{Stored}
use Rattle.plan.specs.Judging.{judge, uncovered}
use Rattle.solver.specs.Tree.{ComesFrom}
use Rattle.plan.specs.Floor.{named_floor}
use Rattle.judging.specs.declared.Judged.{Judged}
use Rattle.judging.specs.declared.Judged.TheVariants.{Uncovered}
use Rattle.judging.specs.Values.{judged_of}

-- the judgement of a plan: of the rules on its floor, each name at its number, if it is not uncovered: that comes "ahead of any rule"
abbrev pub judged_plan : List (Formula Name) → (p : Plan) → IsPlan p → Judged
judged_plan rules p h = cond (uncovered p) Uncovered (judged_of (judge (named_floor rules p h) rules))

-- that of the plan that the arrays hold
unfoldable pub JudgesSay : PlanArrays → Chart → List ℕ → List ℕ → Judged → Type 0
JudgesSay plan chart code ends r =
    (rules : List (Formula Name)) → ComesFrom code ends chart (row_atoms rules) (numbered_atoms rules)
    → (p : Plan) (h : IsPlan p) → p.names ≡ chart.names → Stored plan p → r ≡ judged_plan rules p h
