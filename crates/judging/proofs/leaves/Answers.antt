-- `judging::leaves` meets its contract: the atoms passed have their values, a contact the one that `plan::touches` answers of its sets, a
-- zero atom the one that `plan::is_vacant` answers of its first. Assumes nothing.
use mathlib.Core.Path.{◌≡◌, refl, sym, ap, ◌∙◌, subst}
use mathlib.Core.Bool.{Bool}
use Prim.Native.Nat.{ℕ}
use native.Mathlib.Omega.{arith}
use lib.ListN.{length-set}
use Rattle.evalset.specs.Sets.{mem_at}
use Rattle.squares.specs.Square.{square_at}
use Rattle.judging.specs.Values.{atom_of, value_of, Sure, LeavesSay}
use Rattle.judging.proofs.Atoms.{sure_none, sure_more}
use Rattle.judging.proofs.leaves.Goals as goal
use Rattle.judging.proofs.leaves.Goals.{then-chart-i, else-chart-i}

pub loop-i-init : goal.loop-i-init
loop-i-init c = (refl, sure_none _ _)

-- `value`: that of the atom at hand
pub loop-i-preserved : goal.loop-i-preserved
unfolding value_of mem_at
loop-i-preserved c =
    let a = c.args in
    let i = c.loop-i.i in
    let atom : Bool → Bool = λ b. atom_of a.plan (square_at a.square.now) b (mem_at a.chart.xs i) (mem_at a.chart.ys i) in
    let value : c.if-chart-i.value ≡ value_of a.plan (square_at a.square.now) a.chart i =
    elim c.if-chart-i.branch [
      | then-chart-i w ↦ w.value-is ∙ w.touches-value.ensures ∙ sym (ap atom w.if-chart-i.true)
      | else-chart-i w ↦ w.value-is ∙ w.is_vacant-value.ensures ∙ sym (ap atom w.if-chart-i.false)
    ] in
    (length-set c.loop-i.out i _ ∙ c.loop-i.invariant.0, sure_more c.loop-i.out i _ _ (omega arith) c.loop-i.invariant.1 (c.all_bits.ensures 0 (omega arith) ∙ value))

pub returns : goal.returns
unfolding LeavesSay
returns c =
    let loop = c.loop-i in
    let a = c.args in
    let z : loop.i ≡ a.chart.atoms = omega arith in
    subst (λ (n : ℕ). Sure loop.out n (value_of a.plan (square_at a.square.now) a.chart)) z loop.invariant.1
