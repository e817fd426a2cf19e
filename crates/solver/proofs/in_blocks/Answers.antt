-- `solver::in_blocks` meets its contract: so far the blocks below some place are passed. Assumes nothing.
use mathlib.Core.Path.{◌≡◌, refl, sym, ap₂, ◌∙◌}
use Prim.Native.Nat.{◌+◌, ◌*◌, ◌^◌}
use native.Mathlib.Omega.{arith}
use Rattle.evalset.specs.Bit.{bit}
use Rattle.kleene.specs.Rails.{word_rows}
use Rattle.evalset.proofs.Walk.{Step, step}
use Rattle.search.specs.Rows.{row_bits}
use Rattle.pairing.proofs.Walking.{places_fall}
use Rattle.solver.proofs.Under.{words_judged, left_refuted}
use Rattle.solver.proofs.Steps.{Turn, walk_starts, walk_ends, walk_stops, turn}
use Rattle.solver.proofs.in_blocks.Invariants.{Known}
use Rattle.solver.proofs.in_blocks.Goals as goal

pub loop-e-init : goal.loop-e-init
loop-e-init c = (0, walk_starts _ _ _ _ _ _, (c.word_leaves-leaves.ensures, refl))

pub returns : goal.returns
returns c =
    walk_stops _ _ _ _ _ _ (λ g h. left_refuted g _ _ _ _ c.unrefuted-rest.ensures) _ _ c.loop-e.invariant.1
    c.requires.1.fits.blocks (sym c.word_least.ensures ∙ c.in_default.is)

-- `taken`: the block that was taken
pub block-found-requires : goal.block-found-requires
block-found-requires c =
    let taken : Step word_rows c.loop-e.invariant.0 c.in-Some.e (bit c.unrefuted-rest.result) (bit c.loop-e.rest) = step word_rows _ _ _ c.loop-e.invariant.1.rest_is _
    (sym c.in-Some.ensures) in
    let p = c.requires in
    (p.0, p.1, c.unrefuted-rest.ensures.low _ taken.passes, c.loop-e.invariant.2, p.2)

-- `turned`: what is found in it
pub returns-then-is_some : goal.returns-then-is_some
returns-then-is_some c =
    let taken : Step word_rows c.loop-e.invariant.0 c.in-Some.e (bit c.unrefuted-rest.result) (bit c.loop-e.rest) = step word_rows _ _ _ c.loop-e.invariant.1.rest_is _
    (sym c.in-Some.ensures) in
    let turned : let a = c.args in Turn {code = a.code.now} {ends = a.ends.now} {chart = a.chart} {cut = a.cut} (Known a.list.now) 0 0 a.cut.k (a.cut.w + a.cut.r) c.unrefuted-rest.result c.loop-e.rest c.in-Some.e c.block-found.result =
    let blocks = c.unrefuted-rest.ensures in
    let low = blocks.low _ taken.passes in
    let y : c.args.cut.k ≡ 0 + c.args.cut.k = omega arith in
    let z : c.in-Some.e ≡ 0 * 2 ^ c.args.cut.k + c.in-Some.e = omega arith in
    turn _ _ _ _ _ _ (λ g h. left_refuted g _ _ _ _ blocks) _ _ c.loop-e.invariant.1 blocks.low _ taken _ _ (ap₂ row_bits y z) _
    (λ g h. c.block-found.ensures.1 g h (words_judged g _ c.requires.1 h _ c.judged-upper.ensures.1 _ low)) in
    turned.finds (sym c.is_some.ensures ∙ c.if-is_some.true)

pub loop-e-smaller : goal.loop-e-smaller
loop-e-smaller c = places_fall _ _ _ (sym c.in-Some.ensures) c.word_without-rest.ensures

pub loop-e-preserved : goal.loop-e-preserved
loop-e-preserved c =
    let taken : Step word_rows c.loop-e.invariant.0 c.in-Some.e (bit c.unrefuted-rest.result) (bit c.loop-e.rest) = step word_rows _ _ _ c.loop-e.invariant.1.rest_is _
    (sym c.in-Some.ensures) in
    let turned : let a = c.args in Turn {code = a.code.now} {ends = a.ends.now} {chart = a.chart} {cut = a.cut} (Known a.list.now) 0 0 a.cut.k (a.cut.w + a.cut.r) c.unrefuted-rest.result c.loop-e.rest c.in-Some.e c.block-found.result =
    let blocks = c.unrefuted-rest.ensures in
    let low = blocks.low _ taken.passes in
    let y : c.args.cut.k ≡ 0 + c.args.cut.k = omega arith in
    let z : c.in-Some.e ≡ 0 * 2 ^ c.args.cut.k + c.in-Some.e = omega arith in
    turn _ _ _ _ _ _ (λ g h. left_refuted g _ _ _ _ blocks) _ _ c.loop-e.invariant.1 blocks.low _ taken _ _ (ap₂ row_bits y z) _
    (λ g h. c.block-found.ensures.1 g h (words_judged g _ c.requires.1 h _ c.judged-upper.ensures.1 _ low)) in
    (c.in-Some.e + 1, turned.passes (sym c.is_some.ensures ∙ c.if-is_some.false) _ c.word_without-rest.ensures, c.block-found.ensures.0)
