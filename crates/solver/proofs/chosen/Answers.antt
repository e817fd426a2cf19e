-- `solver::chosen` meets its contract: of the plain question every row of the set counts. Assumes nothing.
use mathlib.Core.Bool.{Bool, ◌&&◌, and-true}
use mathlib.Core.Path.{sym, ap, ◌∙◌, subst, fun_ext}
use Prim.Native.Nat.{ℕ, ◌+◌}
use Rattle.lists.specs.Search.{first, below}
use Rattle.evalset.specs.Bit.{bit}
use Rattle.kleene.specs.Rails.{word_rows}
use Rattle.search.specs.declared.Asked.{Asked}
use Rattle.search.specs.Asked.{question_of}
use Rattle.search.specs.Planned.{marks_in}
use Rattle.solver.specs.Tree.{answer_of, counts, ChosenSays}
use Rattle.solver.proofs.chosen.Goals as goal

pub returns-in-Plain : goal.returns-in-Plain
unfolding ChosenSays
returns-in-Plain c = λ atoms h.
    let a = c.args in
    c.answer.ensures
    ∙ ap (λ (p : ℕ → Bool). answer_of a.start (first p (below word_rows)))
    (fun_ext (λ e. sym (and-true (bit a.set e))
    ∙ ap (λ (x : Asked). bit a.set e && counts (question_of x) a.chart.names (marks_in a.chart atoms (a.start + e))) (sym c.in-Plain.is)))

pub returns-in-Building : goal.returns-in-Building
returns-in-Building c =
    let a = c.args in
    subst (λ (x : Asked). ChosenSays (question_of x) a.chart (bit a.set) a.start c.first_building.result) (sym c.in-Building.is)
    c.first_building.ensures
