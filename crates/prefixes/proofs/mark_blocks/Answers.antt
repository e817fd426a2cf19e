-- `prefixes::mark_blocks` meets its contract: block after block is filled. Assumes nothing.
use mathlib.Core.Path.{◌≡◌, subst}
use Prim.Native.Nat.{ℕ, ◌+◌, ◌*◌, ◌^◌}
use native.Mathlib.Omega.{arith}
use Rattle.prefixes.specs.Filled.{Fills}
use Rattle.prefixes.proofs.Filling.{fills_none, fills_more, blocks_end, row_fits}
use Rattle.prefixes.proofs.mark_blocks.Goals as goal

pub some_without-some-requires : goal.some_without-some-requires
some_without-some-requires c = omega (arith, c.requires)

pub overflow_shl-row-end : goal.overflow_shl-row-end
overflow_shl-row-end c = omega (arith, c.requires)

pub loop-row-init : goal.loop-row-init
loop-row-init c =
    let a = c.args in
    let z : 2 ^ (a.k + a.d) ≡ 2 ^ (a.k + a.d) + 0 * 2 ^ a.d = omega arith in
    subst (λ (x : ℕ). Fills a.list.now a.contacts (a.k + a.d + a.s) (2 ^ (a.k + a.d)) x a.bits.now a.bits.now) z (fills_none _ _)

pub mark_block-requires : goal.mark_block-requires
mark_block-requires c =
    let k = c.loop-row in
    (c.requires.0, c.requires.1, row_fits c.args.k k.row (omega (arith, c.requires)) (omega arith), c.requires.2, c.some_without-some.ensures, omega (arith, c.requires.3, k.invariant.long))

pub loop-row-preserved : goal.loop-row-preserved
loop-row-preserved c =
    let k = c.loop-row in
    fills_more k.invariant c.mark_block.ensures (omega arith)

pub shape_of-bits : goal.shape_of-bits
shape_of-bits c = c.loop-row.invariant.long

pub returns : goal.returns
returns c =
    let k = c.loop-row in
    let a = c.args in
    subst (λ (x : ℕ). Fills a.list.now a.contacts (a.k + a.d + a.s) (2 ^ (a.k + a.d)) x a.bits.now k.bits)
    (blocks_end a.k a.d k.row (omega (arith, c.requires)) (omega (arith, k.invariant))) k.invariant
