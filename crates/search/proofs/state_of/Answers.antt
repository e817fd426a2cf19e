-- `search::state_of` meets its contract: the state is that of the marks of the atoms passed. Assumes nothing.
use mathlib.Core.Bool.{Bool}
use mathlib.Core.Path.{◌≡◌, refl, sym, ap, ◌∙◌, subst}
use mathlib.Core.List.{[], ◌∷◌, ◌++◌}
use native.Mathlib.Omega.{arith}
use lib.ListN.{take}
use Rattle.squares.specs.Square.{reach}
use Rattle.squares.proofs.Rows.{same_reach, same_square}
use Rattle.contact.specs.Plan.{mark, row_marks}
use Rattle.search.specs.Rows.{row_bits}
use Rattle.search.specs.Compiled.{atom_at, state, Fit, StepSays}
use Rattle.search.specs.Planned.{StateSays}
use Rattle.contact.proofs.Searching.{no_marks}
use Rattle.search.proofs.Fitting.{fit_start}
use Rattle.search.proofs.Rows.{row_length, marks_take, marks_whole}
use Rattle.search.proofs.state_of.Goals as goal

pub loop-i-init : goal.loop-i-init
loop-i-init c = (
  refl,
  refl,
  λ atoms h wide. subst (Fit _ _) (sym (no_marks atoms)) (fit_start _ _ c.possible-allowed.ensures c.requires.2 h.few),
)

pub step-allowed-requires : goal.step-allowed-requires
step-allowed-requires c =
    (omega arith, same_square c.loop-i.rows c.args.rows.now c.loop-i.invariant.1 c.requires.1)

pub loop-i-preserved : goal.loop-i-preserved
unfolding StepSays
loop-i-preserved c =
    let a = c.args in
    let loop = c.loop-i in
    let below = c.below-all in
    let step = c.step-allowed in
    let row = row_bits a.chart.atoms a.row in
    let long = row_length a.chart.atoms a.row in
    let same : reach loop.rows ≡ reach a.rows.now = same_reach loop.rows a.rows.now loop.invariant.1 in (
      refl,
      step.ensures.0 ∙ loop.invariant.1,
      λ atoms h wide.
          subst (Fit _ _)
          (ap (λ (v : Bool). row_marks atoms (take loop.i row) ++ mark (atom_at atoms loop.i) v ∷ []) c.value_in.ensures
          ∙ sym (marks_take atoms row loop.i (omega (arith, long)) (omega (arith, long, h.counted))))
          (step.ensures.1 atoms h (omega (arith, h.counted)) below.ensures (omega (arith, same, wide)) _ (loop.invariant.2 atoms h wide)),
    )

pub shape_of-rows : goal.shape_of-rows
shape_of-rows c = c.loop-i.invariant.1

pub returns : goal.returns
unfolding StateSays
returns c =
    let a = c.args in
    let loop = c.loop-i in
    let same : reach loop.rows ≡ reach a.rows.now = same_reach loop.rows a.rows.now loop.invariant.1 in (
      loop.invariant.1,
      λ atoms h wide.
          subst (Fit a.chart.names (state loop.allowed loop.rows))
          (marks_whole atoms a.chart.atoms a.row loop.i (omega arith)) (loop.invariant.2 atoms h (omega (arith, same, wide))),
    )
