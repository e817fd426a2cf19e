-- `table::Table::names` meets its contract: so far the names are those of the first i texts. Assumes nothing.
use Prim.Native.Nat.{◌<◌}
use Rattle.table.proofs.Lines.{count_few}
use Rattle.table.proofs.Recount.{named_none, named_all, text_within, text_length, text_gathers, named_more}
use native.Mathlib.Omega.{arith}
use Rattle.table.proofs.Table.names.Goals as goal

few : (c : goal.In-loop-i) → c.loop-i.i < 16
few c = omega (arith, count_few c.args.self c.requires, c.loop-i-test.true)

pub loop-i-init : goal.loop-i-init
loop-i-init c = named_none _ _ c.no_names-names.ensures

pub offset_bounds-self-i : goal.offset_bounds-self-i
offset_bounds-self-i c = omega (arith, few c)

pub bounds-self-i : goal.bounds-self-i
bounds-self-i c = few c

pub slice_bounds-bytes-end : goal.slice_bounds-bytes-end
slice_bounds-bytes-end c = text_within c.requires c.loop-i-test.true

pub slice_bounds-text-end : goal.slice_bounds-text-end
slice_bounds-text-end c = text_length c.requires c.loop-i-test.true

pub gather-gathered-requires : goal.gather-gathered-requires
gather-gathered-requires c = text_gathers c.requires c.loop-i-test.true _ c.loop-i.invariant _ c.read_rule-rule.ensures

pub loop-i-preserved : goal.loop-i-preserved
loop-i-preserved c = named_more c.requires c.loop-i-test.true _ c.loop-i.invariant _ c.gather-gathered.ensures

pub returns : goal.returns
returns c = named_all _ _ _ c.requires c.loop-i.invariant c.loop-i-test.false
