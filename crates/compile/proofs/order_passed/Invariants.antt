-- `compile::order_passed` meets its contract: the loop follows the machine, symbol by symbol (Follow.antt), and the symbols that are left
-- fall. Assumes nothing.
use Prim.Native.Nat.{◌-◌}
use mathlib.Core.Bool.{true}
use mathlib.Core.Path.{◌≡◌}
use lib.ListN.{length}
use Rattle.compile.specs.Stack.{sets_in}
use Rattle.compile.proofs.Turns.{turned}
use Rattle.compile.proofs.Follow.{Inv}
use Rattle.compile.proofs.Charts.{Sized}
use Rattle.compile.proofs.order_passed.Given as goal

abbrev pub invariant-loop-i : goal.invariant-loop-i
invariant-loop-i l =
    Inv l.order l.numbers (turned l.initial.chart l.initial.lens l.initial.end true) l.initial.kept l.initial.code l.kept l.code (turned l.chart l.lens l.end true) (sets_in l.stack) l.row l.at.height l.at.len l.at.used l.i × Sized l.chart l.lens × (length l.stack ≡ length l.initial.stack)

abbrev pub decreases-loop-i : goal.decreases-loop-i
decreases-loop-i l =
    length l.order - l.i
