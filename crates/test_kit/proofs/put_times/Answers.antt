-- `test_kit::put_times` meets its contract: so far the bytes are put i times. Assumes nothing.
use mathlib.Core.Path.{◌≡◌, ap}
use Prim.Native.Nat.{ℕ}
use native.Mathlib.Omega.{arith}
use Rattle.lists.proofs.Below.{collect_more}
use Rattle.test_kit.specs.Putting.{times}
use Rattle.test_kit.proofs.Putting.{puts_none, puts_as, puts_more}
use Rattle.test_kit.proofs.put_times.Goals as goal

pub loop-i-init : goal.loop-i-init
loop-i-init c = puts_none _ _

pub loop-i-preserved : goal.loop-i-preserved
loop-i-preserved c =
    let e = collect_more (λ (j : ℕ). c.args.bytes.now) c.loop-i._i in
    puts_as e (puts_more c.loop-i.invariant c.put_bytes-end.ensures)

pub shape_of-text : goal.shape_of-text
shape_of-text c = c.loop-i.invariant.kept

pub returns : goal.returns
returns c =
    let a = c.args in
    let all : c.loop-i._i ≡ a.n = omega arith in
    puts_as (ap (λ (k : ℕ). times k a.bytes.now) all) c.loop-i.invariant
