-- `search::met_by` meets its contract: the marks of the atoms passed are met, and one that is not ends the walk. Assumes nothing.
use mathlib.Core.Bool.{Bool, true, false, ◌&&◌}
use mathlib.Core.Path.{◌≡◌, refl, sym, ap, ap₂, ◌∙◌}
use mathlib.Core.List.{List}
use mathlib.Mathlib.Data.Bool.Basic.{eq-false_of_not-eq-true}
use Prim.Native.Nat.{ℕ, ◌<◌}
use native.Mathlib.Omega.{arith}
use lib.ListN.{length, get_or, take}
use Rattle.formula.specs.Formula.{Atom}
use Rattle.lists.specs.Search.{In, all, elem}
use Rattle.lists.proofs.Search.{all_elim, all_last}
use Rattle.lists.proofs.Truth.{clash}
use Rattle.evalset.specs.Sets.{mem, mem_at}
use Rattle.contact.specs.Plan.{Mark, mark, row_marks, allowed, met}
use Rattle.contact.proofs.Searching.{no_marks}
use Rattle.search.specs.Rows.{row_bits}
use Rattle.search.specs.Compiled.{atom_at, Compiled}
use Rattle.search.specs.Building.{RowsAre, MetSays}
use Rattle.search.proofs.Rows.{row_length, marks_take, marks_whole, mark_in}
use Rattle.search.proofs.Meeting.{met_is}
use Rattle.search.proofs.met_by.Goals as goal

pub loop-i-init : goal.loop-i-init
loop-i-init c = (
  refl,
  λ atoms h ms are set same ok. ap (all (met ms set)) (no_marks atoms),
)

-- `here`: whether the mark of the atom at hand is met
pub returns-then-not-met : goal.returns-then-not-met
unfolding MetSays mem_at
returns-then-not-met c =
    let here : let a = c.args in let i = c.loop-i.i in (atoms : List (Atom ℕ)) → Compiled a.chart atoms → (ms : List Mark)
    → RowsAre a.chart.names a.rows.now ms → (set : List ℕ) → ((f : ℕ) → mem a.piece f ≡ elem f set)
    → ((f : ℕ) → In f set → allowed a.chart.names ms f ≡ true)
    → c.met.result ≡ met ms set (mark (atom_at atoms i) (get_or (row_bits a.chart.atoms a.row) i false)) = λ atoms h ms are set same ok.
    let a = c.args in
    let i = c.loop-i.i in
    let within : i < length atoms = omega (arith, h.counted) in
    c.met.ensures
    ∙ met_is a.chart.names h.few a.rows.now ms are _ set same ok _ _ _ _ (atom_at atoms i) (h.atom_is i within)
    ∙ ap (λ (v : Bool). met ms set (mark (atom_at atoms i) v)) c.value_in.ensures in
    λ atoms h ms are set same ok.
    let a = c.args in
    let i = c.loop-i.i in
    let long = row_length a.chart.atoms a.row in
    let unmet = sym (here atoms h ms are set same ok) ∙ c.if-not-met.true in
    sym (eq-false_of_not-eq-true
    (λ t. clash
    (all_elim (met ms set) (mark_in atoms (row_bits a.chart.atoms a.row) i (omega (arith, long)) (omega (arith, long, h.counted))) t) unmet))

pub loop-i-preserved : goal.loop-i-preserved
unfolding mem_at
loop-i-preserved c =
    let here : let a = c.args in let i = c.loop-i.i in (atoms : List (Atom ℕ)) → Compiled a.chart atoms → (ms : List Mark)
    → RowsAre a.chart.names a.rows.now ms → (set : List ℕ) → ((f : ℕ) → mem a.piece f ≡ elem f set)
    → ((f : ℕ) → In f set → allowed a.chart.names ms f ≡ true)
    → c.met.result ≡ met ms set (mark (atom_at atoms i) (get_or (row_bits a.chart.atoms a.row) i false)) = λ atoms h ms are set same ok.
    let a = c.args in
    let i = c.loop-i.i in
    let within : i < length atoms = omega (arith, h.counted) in
    c.met.ensures
    ∙ met_is a.chart.names h.few a.rows.now ms are _ set same ok _ _ _ _ (atom_at atoms i) (h.atom_is i within)
    ∙ ap (λ (v : Bool). met ms set (mark (atom_at atoms i) v)) c.value_in.ensures in
    let a = c.args in
    let loop = c.loop-i in
    let row = row_bits a.chart.atoms a.row in
    let long = row_length a.chart.atoms a.row in (
      refl,
      λ atoms h ms are set same ok.
          ap (all (met ms set)) (marks_take atoms row loop.i (omega (arith, long)) (omega (arith, long, h.counted)))
          ∙ all_last (met ms set) (row_marks atoms (take loop.i row)) _
          ∙ ap₂ ◌&&◌ (loop.invariant.1 atoms h ms are set same ok)
          (sym (here atoms h ms are set same ok) ∙ c.if-not-met.false),
    )

pub returns : goal.returns
unfolding MetSays
returns c = λ atoms h ms are set same ok.
    let a = c.args in
    let loop = c.loop-i in
    sym (ap (all (met ms set)) (sym (marks_whole atoms a.chart.atoms a.row loop.i (omega arith))) ∙ loop.invariant.1 atoms h ms are set same ok)
