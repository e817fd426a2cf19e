-- `exercises::put_line` meets its contract: the tokens, then byte 10. Assumes nothing.
use mathlib.Core.List.{[], ◌∷◌}
use native.Mathlib.Omega.{arith}
use lib.ListN.{length-append}
use Rattle.exercises.specs.Lines.{parted}
use Rattle.lists.proofs.Putting.{puts_byte, puts_length}
use Rattle.exercises.proofs.put_line.Goals as goal

pub put_parted-end-requires : goal.put_parted-end-requires
put_parted-end-requires c = omega (arith, c.requires, length-append (parted c.args.ks.now) (10 ∷ []))

pub bounds-out-end : goal.bounds-out-end
bounds-out-end c =
    let p = c.put_parted-end.ensures in
    omega (arith, c.requires, p.place, puts_length p, length-append (parted c.args.ks.now) (10 ∷ []))

pub returns : goal.returns
returns c = puts_byte c.put_parted-end.ensures 10 c.requires
