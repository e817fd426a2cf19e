-- `exercises::put_parted` meets its contract: so far the first i tokens are put. Assumes nothing.
use mathlib.Core.Path.{◌≡◌, sym, ap, ◌∙◌}
use mathlib.Core.List.{◌++◌}
use Prim.Native.Nat.{ℕ, ◌+◌}
use native.Mathlib.Omega.{arith}
use lib.ListN.{length, take, get_or, length-append}
use lib.Seq.{take_all}
use Rattle.exercises.specs.Tokens.{spelling}
use Rattle.exercises.specs.Lines.{parted}
use Rattle.exercises.specs.Book.{gap}
use Rattle.exercises.proofs.Lines.{parted_next, parted_within}
use Rattle.lists.proofs.Putting.{puts_none, puts_text, puts_length, puts_more, fits_next}
use Rattle.exercises.proofs.put_parted.Goals as goal

pub loop-i-init : goal.loop-i-init
loop-i-init c = puts_none c.args.at c.args.out.now (omega (arith, c.requires))

pub put_next-end-requires : goal.put_next-end-requires
put_next-end-requires c =
    let ks = c.args.ks.now in
    let k = c.loop-i in
    let piece = gap k.i ++ spelling (get_or ks k.i 0) in
    let whole : parted (take (length ks) ks) ≡ parted ks = ap parted (take_all (length ks) ks (omega arith)) in
    fits_next k.invariant (length piece)
    (omega (arith, c.requires, ap length whole, ap length (parted_next ks k.i (omega arith)), length-append (parted (take k.i ks)) piece, parted_within ks (k.i + 1) (length ks) (omega arith) (omega arith)))

pub loop-i-preserved : goal.loop-i-preserved
loop-i-preserved c =
    let k = c.loop-i in
    puts_text (sym (parted_next c.args.ks.now k.i (omega arith))) (puts_more k.invariant c.put_next-end.ensures)

pub returns : goal.returns
returns c =
    let k = c.loop-i in
    puts_text (ap parted (take_all k.i c.args.ks.now (omega arith))) k.invariant
