-- `test_kit::put_every` meets its contract: so far the contacts of the first i positions are put. Assumes nothing.
use mathlib.Core.Path.{◌≡◌, ap}
use Prim.Native.Nat.{ℕ, ◌+◌, ◌<◌, ◌^◌}
use native.Mathlib.Omega.{arith}
use Rattle.lists.specs.Search.{collect, below}
use Rattle.lists.proofs.Below.{collect_more}
use Rattle.test_kit.specs.Putting.{Puts}
use Rattle.test_kit.specs.Every.{contacts_of, every_before}
use Rattle.test_kit.proofs.Putting.{puts_none, puts_as, puts_more}
use Rattle.test_kit.proofs.Every.{every_few, every_last}
use Rattle.test_kit.proofs.put_every.Goals.{After-loop-i}
use Rattle.test_kit.proofs.put_every.Goals as goal

before_last : (c : After-loop-i) → let a = c.args in Puts (every_before a.first (a.last + 1)) 0 a.words.now c.loop-i.words c.loop-i.end
unfolding every_before
before_last c =
    let n = c.args.last + 1 in
    let all : c.loop-i.i ≡ n = omega arith in
    puts_more (puts_more c.put_word-at.ensures c.put_rising-end.ensures) (puts_as (ap (λ (i : ℕ). collect (contacts_of n) (below i)) all) c.loop-i.invariant)

few : (c : After-loop-i) → c.loop-i.end < 2 ^ 28
few c =
    let a = c.args in
    omega (arith, (before_last c).place, every_few a.first (a.last + 1) (omega arith))

pub loop-i-init : goal.loop-i-init
loop-i-init c = puts_none _ _

pub loop-i-preserved : goal.loop-i-preserved
loop-i-preserved c =
    let n = c.args.last + 1 in
    puts_as (collect_more (contacts_of n) c.loop-i.i) (puts_more c.loop-i.invariant c.put_rising-end-in-loop-i.ensures)

pub overflow_cast-end : goal.overflow_cast-end
overflow_cast-end c = omega (arith, few c.before)

pub overflow_add-end : goal.overflow_add-end
overflow_add-end c = omega (arith, few c.before)

pub returns : goal.returns
returns c = every_last _ _ (before_last c.before.before.before.before.before) c.put_word.ensures

pub shape_of-words : goal.shape_of-words
shape_of-words c = (returns c).kept
