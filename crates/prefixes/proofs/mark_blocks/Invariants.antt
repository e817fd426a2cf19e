-- `prefixes::mark_blocks` meets its contract: block after block is filled. Assumes nothing.
use Prim.Native.Nat.{◌+◌, ◌*◌, ◌^◌}
use Rattle.prefixes.specs.Filled.{Fills}
use Rattle.prefixes.proofs.mark_blocks.Given as goal

abbrev pub invariant-loop-row : goal.invariant-loop-row
invariant-loop-row l = Fills l.list l.contacts (l.k + l.d + l.s) (2 ^ (l.k + l.d)) (2 ^ (l.k + l.d) + l.row * 2 ^ l.d) l.initial.bits l.bits
