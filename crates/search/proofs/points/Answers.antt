-- `search::points` meets its contract: they are given, or the first piece. Assumes nothing.
use mathlib.Core.Path.{sym, ap, ◌∙◌}
use Rattle.lists.specs.Search.{elem}
use Rattle.contact.specs.Check.{given_by}
use Rattle.search.specs.declared.Asked.{Asked}
use Rattle.search.specs.Asked.{question_of}
use Rattle.search.specs.Planned.{marks_in, GivenSays, PointsSay}
use Rattle.search.specs.Building.{FoundSays}
use Rattle.evalset.specs.declared.EvalSet.{EvalSet}
use Rattle.evalset.specs.Sets.{mem}
use Rattle.search.proofs.Finding.{or_empty}
use Rattle.search.proofs.points.Goals as goal

pub returns-in-Plain : goal.returns-in-Plain
unfolding PointsSay GivenSays
returns-in-Plain c = λ atoms h f e.
    let a = c.args in
    c.given.ensures atoms h f e
    ∙ ap (λ (x : Asked). elem e (given_by (question_of x) a.chart.names (marks_in a.chart atoms a.row))) (sym c.in-Plain.is)

pub returns-in-Building : goal.returns-in-Building
unfolding PointsSay FoundSays
returns-in-Building c = λ atoms h f e.
    let a = c.args in
    ap (λ (s : EvalSet). mem s e) c.unwrap_or.ensures ∙ or_empty c.first_piece.result _ c.empty.ensures e
    ∙ (c.first_piece.ensures atoms h f).given e
    ∙ ap (λ (x : Asked). elem e (given_by (question_of x) a.chart.names (marks_in a.chart atoms a.row))) (sym c.in-Building.is)
