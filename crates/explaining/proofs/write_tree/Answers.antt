-- `explaining::write_tree` meets its contract: a buffer that is long enough for every tree of so many atoms is written at once, and for a
-- shorter one the words are counted first. Assumes nothing.
use native.Mathlib.Omega.{arith}
use Rattle.explaining.proofs.Puts.{root_asks, root_some, root_ends, writes_tells, writes_short, writes_counted}
use Rattle.explaining.proofs.write_tree.Goals as goal

pub overflow_sub-one : goal.overflow_sub-one
overflow_sub-one c = root_some _ c.requires.2

pub put-end-requires : goal.put-end-requires
put-end-requires c = root_asks c.args.code.now c.args.ends.now c.args.bits.now c.args.n c.requires

pub returns-then-buf-one : goal.returns-then-buf-one
returns-then-buf-one c =
    writes_tells _ _ _ _ _ c.requires.2 c.falses-words.ensures.1 _ _ _ c.put-end.ensures.2
    (root_ends _ _ _ c.requires.2 c.if-buf-one.true c.put-end.ensures.1)

pub put-needed-requires : goal.put-needed-requires
put-needed-requires c = root_asks c.args.code.now c.args.ends.now c.args.bits.now c.args.n c.requires

pub returns-then-needed-buf : goal.returns-then-needed-buf
returns-then-needed-buf c =
    writes_short _ _ _ _ _ c.requires.2 c.falses-words.ensures.1 _ _ _ c.put-needed.ensures.2 _ (omega (arith, c.if-needed-buf.true))

pub put-requires : goal.put-requires
put-requires c = root_asks c.args.code.now c.args.ends.now c.args.bits.now c.args.n c.requires

pub returns : goal.returns
returns c =
    writes_counted _ _ _ _ _ c.requires.2 c.falses-words.ensures.1 _ _ _ c.put-needed.ensures.2 _ _ _ c.put.ensures.2
    (omega (arith, c.if-needed-buf.false))
