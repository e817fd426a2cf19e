-- `search::gathered` meets its contract: what the marks of the atoms passed give is gathered. Assumes nothing.
use mathlib.Core.Bool.{Bool, ◌||◌}
use mathlib.Core.Path.{refl, sym, ap, ap₂, ◌∙◌}
use mathlib.Core.List.{List}
use mathlib.Mathlib.Logic.Function.Defs.{congr_fun}
use Prim.Native.Nat.{◌<◌}
use native.Mathlib.Omega.{arith}
use lib.ListN.{length, take}
use Rattle.lists.specs.Search.{collect, elem}
use Rattle.evalset.specs.Sets.{mem_at}
use Rattle.contact.specs.Plan.{Mark, mark, row_marks, gives}
use Rattle.search.specs.Rows.{row_bits}
use Rattle.search.specs.Compiled.{atom_at}
use Rattle.search.specs.Planned.{GatheredSays}
use Rattle.contact.proofs.Searching.{no_marks}
use Rattle.search.proofs.Rows.{row_length, marks_take, marks_whole}
use Rattle.lists.proofs.Search.{elem_collect_last}
use Rattle.search.proofs.Giving.{gives_is}
use Rattle.search.proofs.gathered.Goals as goal

pub loop-i-init : goal.loop-i-init
loop-i-init c = (
  refl,
  λ atoms h ms f e.
      congr_fun c.empty-acc.ensures e ∙ sym (ap (λ (marks : List Mark). elem e (collect (gives c.args.chart.names ms) marks)) (no_marks atoms)),
)

pub loop-i-preserved : goal.loop-i-preserved
unfolding mem_at
loop-i-preserved c =
    let a = c.args in
    let loop = c.loop-i in
    let row = row_bits a.chart.atoms a.row in
    let long = row_length a.chart.atoms a.row in (
      refl,
      λ atoms h ms f e.
          let within : loop.i < length atoms = omega (arith, h.counted) in
          congr_fun c.join-acc.ensures e
          ∙ ap₂ ◌||◌ (loop.invariant.1 atoms h ms f e)
          (c.gives.ensures e
          ∙ ap (elem e) (gives_is _ h.few _ ms f _ _ _ _ (atom_at atoms loop.i) (h.atom_is loop.i within)
          ∙ ap (λ (v : Bool). gives a.chart.names ms (mark (atom_at atoms loop.i) v)) c.value_in.ensures))
          ∙ sym (ap (λ (marks : List Mark). elem e (collect (gives a.chart.names ms) marks))
          (marks_take atoms row loop.i (omega (arith, long)) (omega (arith, long, h.counted)))
          ∙ elem_collect_last (gives a.chart.names ms) (row_marks atoms (take loop.i row)) _ e),
    )

pub returns : goal.returns
unfolding GatheredSays
returns c = λ atoms h ms f e.
    let a = c.args in
    let loop = c.loop-i in
    loop.invariant.1 atoms h ms f e
    ∙ ap (λ (marks : List Mark). elem e (collect (gives a.chart.names ms) marks)) (marks_whole atoms a.chart.atoms a.row loop.i (omega arith))
