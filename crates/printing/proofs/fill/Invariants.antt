-- `printing::fill` meets its contract: the tasks that are left and the bytes that are there make the text (the invariant, `Goes`); with each
-- turn a symbol of the order, a token or a byte falls. Assumes nothing.
use Prim.Native.Nat.{◌+◌}
use Rattle.printing.specs.Places.{text_to}
use Rattle.printing.proofs.Walking.{Goes}
use Rattle.printing.proofs.fill.Given as goal

abbrev pub invariant-loop-height : goal.invariant-loop-height
invariant-loop-height l = Goes (text_to l.text l.initial.k) l.text l.order l.kinds l.starts l.lens l.made l.k l.j l.stack l.height l.at

abbrev pub decreases-loop-height : goal.decreases-loop-height
decreases-loop-height l = l.at + l.k + l.j
