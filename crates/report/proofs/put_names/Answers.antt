-- `report::put_names` meets its contract: so far the names with numbers below i are put. Assumes nothing.
use native.Mathlib.Omega.{arith}
use lib.ListN.{length}
use Rattle.lists.proofs.Putting.{puts_none, puts_length, turn_puts, turns_put}
use Rattle.names.specs.Gather.{known_of}
use Rattle.report.proofs.Parts.{names_parts}
use Rattle.report.proofs.put_names.Invariants.{name_text}
use Rattle.report.proofs.put_names.Goals as goal

pub loop-i-init : goal.loop-i-init
loop-i-init c =
    (puts_none c.args.at c.args.out.now (omega (arith, c.requires)), omega arith)

pub put_name_if-end-requires : goal.put_name_if-end-requires
put_name_if-end-requires c =
    let k = c.loop-i in
    let count = c.count_of-count.ensures in
    (omega (arith, count.0), omega (arith, count.1), omega (arith, count.1, c.requires, k.invariant.1, puts_length k.invariant.0))

pub loop-i-preserved : goal.loop-i-preserved
loop-i-preserved c =
    let a = c.args in
    let k = c.loop-i in
    (turn_puts (name_text a.names a.e) k.i k.invariant.0 c.put_name_if-end.ensures.0, omega (arith, c.put_name_if-end.ensures.1, k.invariant.1))

pub shape_of-out : goal.shape_of-out
shape_of-out c = puts_length c.loop-i.invariant.0

pub returns : goal.returns
returns c =
    let a = c.args in
    let k = c.loop-i in
    let count = c.count_of-count.ensures in
    (turns_put (name_text a.names a.e) k.i k.invariant.0 (length (known_of a.names)) (omega (arith, count.0)) (names_parts (known_of a.names) a.e), omega (arith, count.1, k.invariant.1))
