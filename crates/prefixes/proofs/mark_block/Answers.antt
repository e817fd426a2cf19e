-- `prefixes::mark_block` meets its contract: the rows of a block are tested by its table. Assumes nothing.
use native.Mathlib.Omega.{arith}
use Rattle.solver.proofs.Places.{row_small, low_small}
use Rattle.prefixes.proofs.Filling.{places, block_fills}
use Rattle.prefixes.proofs.mark_block.Goals as goal

pub judged-table-requires : goal.judged-table-requires
judged-table-requires c =
    (omega (arith, c.requires), c.requires.1, row_small c.args.k _ (omega (arith, c.requires)) c.requires.2, c.requires.3)

pub overflow_add-top : goal.overflow_add-top
overflow_add-top c = omega (arith, c.requires)

pub overflow_shl-top : goal.overflow_shl-top
overflow_shl-top c = omega (arith, c.requires)

pub overflow_shl-start : goal.overflow_shl-start
overflow_shl-start c = omega (arith, c.requires)

pub overflow_shl-end : goal.overflow_shl-end
overflow_shl-end c = omega (arith, c.requires)

pub overflow_add-end : goal.overflow_add-end
overflow_add-end c =
    let p = places c.args.k c.args.d c.args.row (omega (arith, c.requires)) c.requires.2 in
    omega (arith, p.fits, p.small)

pub low_bits-low-requires : goal.low_bits-low-requires
low_bits-low-requires c = c.requires.1

pub overflow_cast-s : goal.overflow_cast-s
overflow_cast-s c = omega (arith, c.requires)

pub overflow_shr-contacts : goal.overflow_shr-contacts
overflow_shr-contacts c = omega (arith, c.requires)

pub mark_rows-requires : goal.mark_rows-requires
mark_rows-requires c =
    let p = places c.args.k c.args.d c.args.row (omega (arith, c.requires)) c.requires.2 in (
      low_small c.args.d _ c.requires.1 c.low_bits-low.ensures,
      omega arith,
      p.small,
      omega (arith, p.fits, p.small),
      omega (arith, p.fits, p.top_is, c.requires.5),
    )

pub returns : goal.returns
returns c =
    let a = c.args in
    let p = places a.k a.d a.row (omega (arith, c.requires)) c.requires.2 in
    block_fills _ _ a.s a.k a.d a.row _ _ _ _ _ _ _ _ c.requires.2 c.requires.4 c.low_bits-low.ensures
    p.top_is p.start_is p.end_is c.judged-table.ensures.1 c.mark_rows.ensures
