-- `table::Table::compiled` meets its contract: so far the first i texts are compiled. Assumes nothing.
use Prim.Native.Nat.{ℕ, ◌+◌, ◌*◌, ◌≤◌, ◌<◌}
use mathlib.Core.Path.{◌≡◌, refl, subst, ◌∙◌}
use native.Mathlib.Omega.{arith}
use lib.ListN.{length, length-replicate}
use Rattle.table.proofs.Lines.{count_few}
use Rattle.table.proofs.Recount.{text_within, text_length}
use Rattle.ruleset.proofs.Claims.{no_texts}
use Rattle.table.proofs.Compiled.{Reached, reached_ready, reached_next}
use Rattle.table.proofs.Table.compiled.Goals as goal

pub loop-i-init : goal.loop-i-init
loop-i-init c = (refl, no_texts _ _ _ c.nothing_compiled-c.ensures (length-replicate {A = ℕ} 2048 0))

pub offset_bounds-self-i : goal.offset_bounds-self-i
offset_bounds-self-i c =
    let low : c.loop-i.i < c.args.self.count = omega (arith, c.requires.1, c.loop-i-test.true) in
    let few : c.loop-i.i < 16 = omega (arith, count_few _ c.requires.0, low) in
    omega (arith, few)

pub bounds-self-i : goal.bounds-self-i
bounds-self-i c =
    let low : c.loop-i.i < c.args.self.count = omega (arith, c.requires.1, c.loop-i-test.true) in
    let few : c.loop-i.i < 16 = omega (arith, count_few _ c.requires.0, low) in
    few

pub slice_bounds-bytes-end : goal.slice_bounds-bytes-end
slice_bounds-bytes-end c =
    let low : c.loop-i.i < c.args.self.count = omega (arith, c.requires.1, c.loop-i-test.true) in
    text_within c.requires.0 low

pub slice_bounds-with_text-end : goal.slice_bounds-with_text-end
slice_bounds-with_text-end c =
    let low : c.loop-i.i < c.args.self.count = omega (arith, c.requires.1, c.loop-i-test.true) in
    text_length c.requires.0 low

pub with_text-c-requires : goal.with_text-c-requires
with_text-c-requires c =
    let low : c.loop-i.i < c.args.self.count = omega (arith, c.requires.1, c.loop-i-test.true) in
    let room : 256 * (c.loop-i.i + 1) ≤ length c.loop-i.code = omega (arith, c.requires.2, c.loop-i.invariant.0, c.loop-i-test.true) in
    let inv = c.loop-i.invariant in
    reached_ready c.requires.0 low _ _ _ inv.1 room

pub loop-i-preserved : goal.loop-i-preserved
loop-i-preserved c =
    let low : c.loop-i.i < c.args.self.count = omega (arith, c.requires.1, c.loop-i-test.true) in
    let room : 256 * (c.loop-i.i + 1) ≤ length c.loop-i.code = omega (arith, c.requires.2, c.loop-i.invariant.0, c.loop-i-test.true) in
    let inv = c.loop-i.invariant in (
      c.with_text-c.ensures.1 ∙ inv.0,
      reached_next c.requires.0 low _ _ _ inv.1 room _ _ _ c.with_text-c.ensures.0,
    )

pub shape_of-code : goal.shape_of-code
shape_of-code c = c.loop-i.invariant.0

pub returns : goal.returns
returns c =
    let e : c.loop-i.i ≡ c.args.rules = omega arith in
    (record { kept = _; compiled = subst (Reached _ _ _ _) e c.loop-i.invariant.1 }, c.loop-i.invariant.0)
