-- `table::Table::known` meets its contract: so far the first i texts are known (Recount.antt). Assumes nothing.
use Prim.Native.Nat.{◌<◌}
use native.Mathlib.Omega.{arith}
use Rattle.table.proofs.Lines.{count_few}
use Rattle.table.proofs.Recount.{known_none, known_all, text_within, text_length, known_so_far, known_more}
use Rattle.table.proofs.Table.known.Goals as goal

few : (c : goal.In-loop-i) → c.loop-i.i < 16
few c = omega (arith, count_few _ c.requires.0, c.loop-i-test.true)

pub loop-i-init : goal.loop-i-init
loop-i-init c = known_none _ _ _ c.nothing_known-known.ensures c.requires.1

pub offset_bounds-self-i : goal.offset_bounds-self-i
offset_bounds-self-i c = omega (arith, few c)

pub bounds-self-i : goal.bounds-self-i
bounds-self-i c = few c

pub slice_bounds-bytes-end : goal.slice_bounds-bytes-end
slice_bounds-bytes-end c = text_within c.requires.0 c.loop-i-test.true

pub slice_bounds-with_text-end : goal.slice_bounds-with_text-end
slice_bounds-with_text-end c = text_length c.requires.0 c.loop-i-test.true

pub with_text-requires : goal.with_text-requires
with_text-requires c = known_so_far c.requires.0 c.loop-i-test.true _ _ c.loop-i.invariant

pub loop-i-preserved : goal.loop-i-preserved
loop-i-preserved c = known_more c.requires.0 c.loop-i-test.true _ _ c.loop-i.invariant _ _ _ c.with_text.ensures

pub returns : goal.returns
returns c = known_all _ _ _ _ c.requires.0 c.loop-i.invariant c.loop-i-test.false
