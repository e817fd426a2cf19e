-- `prefixes::mark` meets its contract: one bit is joined to its word. Assumes nothing.
use mathlib.Core.Bool.{Bool}
use mathlib.Core.Path.{sym, subst}
use Prim.Native.Nat.{◌*◌, ◌/◌, ◌%◌, ◌^◌}
use lib.Bits.{bit_or}
use lib.ListN.{get_or, set}
use Rattle.prefixes.specs.Filled.{Marked}
use Rattle.prefixes.proofs.Filling.{marked, unmarked}
use Rattle.prefixes.proofs.mark.Goals as goal

pub returns-else-value : goal.returns-else-value
returns-else-value c =
    subst (λ (b : Bool). Marked c.args.h b c.args.bits.now c.args.bits.now) (sym c.if-value.false) (unmarked _ _)

pub returns-then-value : goal.returns-then-value
returns-then-value c =
    let a = c.args in
    subst (λ (b : Bool). Marked a.h b a.bits.now (set a.bits.now (a.h / 64) (bit_or (get_or a.bits.now (a.h / 64) 0) ((1 * 2 ^ (a.h % 64)) % 18446744073709551616))))
    (sym c.if-value.true) (marked _ _ c.requires)
