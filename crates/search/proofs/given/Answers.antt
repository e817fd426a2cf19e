-- `search::given` meets its contract: the set gathered is empty exactly if the list is. Assumes nothing.
use mathlib.Core.Bool.{true, false}
use mathlib.Core.Path.{◌≡◌, sym, ap, ◌∙◌}
use borrow.Author.Tests.{not-true, not-false}
use Rattle.lists.specs.Search.{any, first, collect, below, elem}
use Rattle.evalset.specs.Sets.{room, mem}
use Rattle.evalset.proofs.Members.{mem_below}
use Rattle.contact.specs.Plan.{gives, given, allowed, evaluations}
use Rattle.search.specs.Planned.{marks_in, GatheredSays, GivenSays}
use Rattle.search.proofs.Giving.{least_is, or_else_none, or_else_some}
use Rattle.search.proofs.given.Goals as goal

pub returns-then-is_empty : goal.returns-then-is_empty
unfolding GivenSays GatheredSays given room
returns-then-is_empty c = λ atoms h f e.
    let a = c.args in
    let g = c.gathered-g.result in
    let ms = marks_in a.chart atoms a.row in
    let none : any (mem g) (below room) ≡ false = not-true _ (sym c.is_empty.ensures ∙ c.if-is_empty.true) in
    c.least_of.ensures e
    ∙ ap (elem e) (least_is _ h.few _ ms f
    ∙ sym (or_else_none (collect (gives a.chart.names ms) ms) _ (mem g) (c.gathered-g.ensures atoms h ms f)
    (mem_below g) none))

pub returns-else-is_empty : goal.returns-else-is_empty
unfolding GivenSays GatheredSays given
returns-else-is_empty c = λ atoms h f e.
    let a = c.args in
    let g = c.gathered-g.result in
    let ms = marks_in a.chart atoms a.row in
    let here = c.gathered-g.ensures atoms h ms f in
    let some : any (mem g) (below room) ≡ true = not-false _ (sym c.is_empty.ensures ∙ c.if-is_empty.false) in
    here e
    ∙ ap (elem e) (sym (or_else_some (collect (gives a.chart.names ms) ms)
    (first (allowed a.chart.names ms) (evaluations a.chart.names)) (mem g) here some))
