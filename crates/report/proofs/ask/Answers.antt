-- `report::ask` meets its contract: each question has its call. Assumes nothing.
use mathlib.Core.Path.{sym, subst}
use Rattle.search.specs.declared.Asked.{Asked}
use Rattle.search.specs.Asked.{question_of}
use Rattle.table.specs.Asking.{Asks}
use Rattle.report.proofs.ask.Goals as goal

pub returns-in-Plain : goal.returns-in-Plain
returns-in-Plain c =
    let a = c.args in
    subst (λ (x : Asked). Asks (question_of x) a.table a.words.now c.ask.result c.ask.new.buffer)
    (sym c.in-Plain.is) c.ask.ensures

pub returns-in-Building : goal.returns-in-Building
returns-in-Building c =
    let a = c.args in
    subst (λ (x : Asked). Asks (question_of x) a.table a.words.now c.ask_building.result c.ask_building.new.buffer)
    (sym c.in-Building.is) c.ask_building.ensures
