-- `exercises::put_book` meets its contract: so far the strings of at most m tokens are put. Assumes nothing.
use mathlib.Core.Path.{◌≡◌, ap}
use native.Mathlib.Omega.{arith}
use Rattle.exercises.specs.Book.{text}
use Rattle.lists.proofs.Putting.{puts_text}
use Rattle.exercises.proofs.Sizes.{text_none, length_fits, length_puts}
use Rattle.exercises.proofs.put_book.Goals as goal

pub loop-m-init : goal.loop-m-init
loop-m-init c = text_none c.args.out.now

pub put_walk-end-requires : goal.put_walk-end-requires
put_walk-end-requires c = let k = c.loop-m in (omega arith, length_fits k.m k.invariant (omega arith) c.requires)

pub loop-m-preserved : goal.loop-m-preserved
loop-m-preserved c = length_puts c.loop-m.m c.loop-m.invariant c.put_walk-end.ensures

pub returns : goal.returns
returns c = let e : c.loop-m.m ≡ 6 = omega arith in puts_text (ap text e) c.loop-m.invariant
