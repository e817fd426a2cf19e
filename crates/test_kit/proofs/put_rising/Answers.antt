-- `test_kit::put_rising` meets its contract: so far the first i words are put. Assumes nothing.
use mathlib.Core.Path.{◌≡◌, sym, ap}
use Prim.Native.Nat.{ℕ}
use native.Mathlib.Omega.{arith}
use Rattle.lists.specs.Search.{from}
use Rattle.lists.proofs.Search.{from_append}
use Rattle.test_kit.proofs.Putting.{puts_none, puts_as, puts_more}
use Rattle.test_kit.proofs.put_rising.Goals as goal

pub loop-i-init : goal.loop-i-init
loop-i-init c = puts_none _ _

pub loop-i-preserved : goal.loop-i-preserved
loop-i-preserved c =
    let e = from_append c.args.first c.loop-i.i 1 in
    puts_as (sym e) (puts_more c.loop-i.invariant c.put_word-end.ensures)

pub shape_of-words : goal.shape_of-words
shape_of-words c = c.loop-i.invariant.kept

pub returns : goal.returns
returns c =
    let all : c.loop-i.i ≡ c.args.n = omega arith in
    puts_as (ap (λ (k : ℕ). from c.args.first k) all) c.loop-i.invariant
