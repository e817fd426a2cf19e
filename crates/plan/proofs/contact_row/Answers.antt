-- `plan::contact_row` meets its contract: of the given evaluations those are left that are not in the point's row of the square. Assumes nothing.
use mathlib.Core.Path.{ap, ◌∙◌}
use mathlib.Core.Bool.{Bool}
use Prim.Native.Nat.{ℕ}
use Rattle.evalset.specs.Sets.{mem, minus_of}
use Rattle.evalset.specs.Arrays.{positions_of}
use Rattle.plan.specs.Private.{rows_by}
use Rattle.plan.proofs.contact_row.Goals as goal

pub returns : goal.returns
unfolding rows_by
returns c =
    let a = c.args in
    c.places.ensures
    ∙ ap (λ (x : ℕ → Bool). positions_of a.n a.points x) (c.minus.ensures ∙ ap (λ (x : ℕ → Bool). minus_of (mem a.given) x) c.row_at-row.ensures)
