-- `test_kit::put_bytes` meets its contract: so far the first bytes are put. Assumes nothing.
use mathlib.Core.Path.{sym}
use native.Mathlib.Omega.{arith}
use lib.Seq.{take_all}
use Rattle.lists.proofs.Lists.{take_next}
use Rattle.test_kit.proofs.Putting.{puts_none, puts_as, puts_more}
use Rattle.test_kit.proofs.put_bytes.Goals as goal

pub loop-b-init : goal.loop-b-init
loop-b-init c = puts_none _ _

pub loop-b-preserved : goal.loop-b-preserved
loop-b-preserved c =
    let e = take_next c.args.bytes.now c.loop-b.b-index 0 (omega arith) in
    puts_as (sym e) (puts_more c.loop-b.invariant c.put_byte-end.ensures)

pub shape_of-text : goal.shape_of-text
shape_of-text c = c.loop-b.invariant.kept

pub returns : goal.returns
returns c = puts_as (take_all c.loop-b.b-index c.args.bytes.now (omega arith)) c.loop-b.invariant
