-- `plan::with_place` meets its contract: the two branches are the two cases. Assumes nothing.
use mathlib.Core.Path.{sym, ap, ◌∙◌}
use mathlib.Core.Bool.{Bool, ◌&&◌, ◌||◌, and-false, or-false}
use lib.Dec.{eqb}
use Rattle.evalset.specs.Bit.{bit}
use Rattle.plan.proofs.with_place.Goals as goal

pub returns-else-belongs : goal.returns-else-belongs
returns-else-belongs c =
    let a = c.args in
    λ i. sym (ap (λ (b : Bool). bit a.word i || b) (ap (λ (b : Bool). eqb i a.e && b) c.if-belongs.false ∙ and-false (eqb i a.e)) ∙ or-false (bit a.word i))
