-- `exercises::put_next` meets its contract: what stands before the token, then its bytes. Assumes nothing.
use native.Mathlib.Omega.{arith}
use lib.ListN.{length, length-append}
use Rattle.exercises.specs.Tokens.{spelling}
use Rattle.exercises.specs.Book.{gap}
use Rattle.lists.proofs.Putting.{puts_more, fits_next}
use Rattle.exercises.proofs.put_next.Goals as goal

pub put_gap-end-requires : goal.put_gap-end-requires
put_gap-end-requires c =
    omega (arith, c.requires, length-append (gap c.args.i) (spelling c.args.k))

pub put_token-requires : goal.put_token-requires
put_token-requires c =
    fits_next c.put_gap-end.ensures (length (spelling c.args.k)) (omega (arith, c.requires, length-append (gap c.args.i) (spelling c.args.k)))

pub returns : goal.returns
returns c = puts_more c.put_gap-end.ensures c.put_token.ensures
