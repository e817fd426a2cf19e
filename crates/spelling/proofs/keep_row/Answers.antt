-- `spelling::keep_row` meets its contract: so far the first i bytes are stored (Storing.antt). Assumes nothing.
use Prim.Native.Nat.{◌+◌, ◌*◌, ◌<◌}
use native.Mathlib.Omega.{arith}
use Rattle.spelling.proofs.Storing.{symbol_small, stored_none, stored_all, stored_more}
use Rattle.spelling.proofs.keep_row.Goals as goal

pub loop-i-init : goal.loop-i-init
loop-i-init c = stored_none _ _ _ _ c.requires.whole

-- `symbols_small`: the two symbols fit half a byte each
pub overflow_mul-kept : goal.overflow_mul-kept
overflow_mul-kept c =
    let symbols_small : (c.symbol_in.result < 16) × (c.symbol_in-in-loop-i.result < 16) = (
      omega (arith, c.symbol_in.ensures, symbol_small c.args.row.now c.args.len _ c.args.number c.requires (2 * c.loop-i.i)),
      omega (arith, c.symbol_in-in-loop-i.ensures, symbol_small c.args.row.now c.args.len _ c.args.number c.requires (2 * c.loop-i.i + 1)),
    ) in
    omega (arith, symbols_small)

pub overflow_add-kept : goal.overflow_add-kept
overflow_add-kept c =
    let symbols_small : (c.symbol_in.result < 16) × (c.symbol_in-in-loop-i.result < 16) = (
      omega (arith, c.symbol_in.ensures, symbol_small c.args.row.now c.args.len _ c.args.number c.requires (2 * c.loop-i.i)),
      omega (arith, c.symbol_in-in-loop-i.ensures, symbol_small c.args.row.now c.args.len _ c.args.number c.requires (2 * c.loop-i.i + 1)),
    ) in
    omega (arith, symbols_small)

pub loop-i-preserved : goal.loop-i-preserved
loop-i-preserved c =
    let k = c.loop-i in
    stored_more _ _ _ _ c.requires k.i k.kept k.invariant (omega arith) _ _ c.symbol_in.ensures c.symbol_in-in-loop-i.ensures

pub returns : goal.returns
returns c = stored_all _ _ _ _ c.loop-i.i _ (omega arith) c.loop-i.invariant
