-- `table::judgement` meets its contract: the number of names decides, and the judgement by the compiled rules. Assumes nothing.
use native.Mathlib.Omega.{arith}
use Rattle.table.proofs.Asking.{judge_differs, judge_equal}
use Rattle.table.proofs.judgement.Goals as goal

pub returns-then-names-c : goal.returns-then-names-c
returns-then-names-c c = judge_differs _ _ _ (λ e. omega arith)

pub returns : goal.returns
returns c = judge_equal _ _ _ (omega arith) _ c.judged-judged.ensures _ c.judged_answer.ensures
