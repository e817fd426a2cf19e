-- `solver::answer` meets its contract: the least member of the set is the first number that is in it. Assumes nothing.
use mathlib.Core.Path.{sym, ap, ◌∙◌}
use native.Mathlib.Omega.{arith}
use Rattle.lists.proofs.Below.{first_at, first_none_below}
use Rattle.evalset.specs.Bit.{bit}
use Rattle.kleene.specs.Rails.{word_rows}
use Rattle.evalset.proofs.Walk.{found_least, found_nothing}
use Rattle.solver.specs.Tree.{answer_of}
use Rattle.solver.proofs.answer.Goals as goal

pub returns-in_err-e : goal.returns-in_err-e
returns-in_err-e c =
    let a = c.args in
    c.from_residual.ensures ∙ sym (ap (answer_of a.start)
    (first_none_below (bit a.set) word_rows (found_nothing (bit a.set) word_rows (sym c.word_least.ensures ∙ c.in_err-e.was))))

pub overflow_add-result : goal.overflow_add-result
overflow_add-result c =
    let a = c.args in
    omega (arith, (found_least (bit a.set) word_rows c.in_ok-e.e (sym c.word_least.ensures ∙ c.in_ok-e.was)).within)

pub returns : goal.returns
returns c =
    let a = c.args in
    sym (ap (answer_of a.start)
    (first_at (bit a.set) word_rows _ (found_least (bit a.set) word_rows _ (sym c.word_least.ensures ∙ c.in_ok-e.was))))
