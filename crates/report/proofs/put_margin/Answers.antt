-- `report::put_margin` meets its contract: so far the blanks of the levels below this one are put. Assumes nothing.
use mathlib.Core.Path.{refl}
use native.Mathlib.Omega.{arith}
use Rattle.lists.proofs.Putting.{puts_none, puts_length, turn_fits, turn_puts, turns_put}
use Rattle.report.specs.Lines.{margin}
use Rattle.report.proofs.put_margin.Invariants.{blanks}
use Rattle.report.proofs.put_margin.Goals as goal

pub loop-level-init : goal.loop-level-init
loop-level-init c =
    puts_none c.args.at c.args.out.now (omega (arith, c.requires))

pub put_text-end-requires : goal.put_text-end-requires
unfolding margin
put_text-end-requires c =
    let k = c.loop-level in
    turn_fits blanks k.level k.invariant c.args.depth (omega arith) (omega (arith, c.requires))

pub loop-level-preserved : goal.loop-level-preserved
loop-level-preserved c =
    let k = c.loop-level in
    turn_puts blanks k.level k.invariant c.put_text-end.ensures

pub shape_of-out : goal.shape_of-out
shape_of-out c = puts_length c.loop-level.invariant

pub returns : goal.returns
unfolding margin
returns c =
    let k = c.loop-level in
    turns_put blanks k.level k.invariant c.args.depth (omega arith) refl
