-- `squares::row_of` meets its contract: the words of the row are those of the set.
-- Assumes nothing.
use mathlib.Core.Path.{◌≡◌, ap, ◌∙◌}
use mathlib.Core.List.{[], ◌∷◌}
use Prim.Native.Nat.{ℕ, ◌+◌, ◌*◌, ◌≤◌, ◌<◌}
use native.Mathlib.Omega.{arith}
use lib.ListN.{length, get_or}
use Rattle.evalset.specs.Sets.{mem}
use Rattle.squares.proofs.Rows.{narrow_is, wide_is, narrow_row, wide_row, within, short}
use Rattle.squares.proofs.row_of.Goals as goal

-- `narrow_in`: the row is in the square
pub offset_bounds-ws-p : goal.offset_bounds-ws-p
offset_bounds-ws-p c =
    let narrow_in : c.args.p < length c.args.ws.now = omega (arith, within c.args.ws.now c.args.p 1 (narrow_is _ c.if-ws-eq64.true) c.requires.1) in
    omega (arith, narrow_in, c.if-ws-eq64.true)

pub bounds-ws-p : goal.bounds-ws-p
bounds-ws-p c =
    let narrow_in : c.args.p < length c.args.ws.now = omega (arith, within c.args.ws.now c.args.p 1 (narrow_is _ c.if-ws-eq64.true) c.requires.1) in
    narrow_in

pub returns-then-ws-eq64 : goal.returns-then-ws-eq64
returns-then-ws-eq64 c =
    let ws = c.args.ws.now in
    let p = c.args.p in
    let z : p ≡ 1 * p + 0 = omega arith in
    ap (λ (i : ℕ). mem (record { words = get_or ws i 0 ∷ 0 ∷ 0 ∷ 0 ∷ [] })) z ∙ narrow_row ws p (narrow_is ws c.if-ws-eq64.true)

pub overflow_mul-at : goal.overflow_mul-at
overflow_mul-at c =
    let wide_in : 4 * c.args.p + 4 ≤ length c.args.ws.now = within c.args.ws.now c.args.p 4 (wide_is _ c.if-ws-eq64.false) c.requires.1 in
    omega (arith, wide_in)

pub offset_bounds-ws-at : goal.offset_bounds-ws-at
offset_bounds-ws-at c =
    let wide_in : 4 * c.args.p + 4 ≤ length c.args.ws.now = within c.args.ws.now c.args.p 4 (wide_is _ c.if-ws-eq64.false) c.requires.1 in
    omega (arith, wide_in, short c.args.ws.now c.requires.0)

pub bounds-ws-at : goal.bounds-ws-at
bounds-ws-at c =
    let wide_in : 4 * c.args.p + 4 ≤ length c.args.ws.now = within c.args.ws.now c.args.p 4 (wide_is _ c.if-ws-eq64.false) c.requires.1 in
    omega (arith, wide_in)

pub overflow_add-result : goal.overflow_add-result
overflow_add-result c =
    let wide_in : 4 * c.args.p + 4 ≤ length c.args.ws.now = within c.args.ws.now c.args.p 4 (wide_is _ c.if-ws-eq64.false) c.requires.1 in
    omega (arith, wide_in, short c.args.ws.now c.requires.0)

pub offset_bounds-ws-at-2 : goal.offset_bounds-ws-at-2
offset_bounds-ws-at-2 c =
    let wide_in : 4 * c.args.p + 4 ≤ length c.args.ws.now = within c.args.ws.now c.args.p 4 (wide_is _ c.if-ws-eq64.false) c.requires.1 in
    omega (arith, wide_in, short c.args.ws.now c.requires.0)

pub bounds-ws-at-2 : goal.bounds-ws-at-2
bounds-ws-at-2 c =
    let wide_in : 4 * c.args.p + 4 ≤ length c.args.ws.now = within c.args.ws.now c.args.p 4 (wide_is _ c.if-ws-eq64.false) c.requires.1 in
    omega (arith, wide_in)

pub overflow_add-result-2 : goal.overflow_add-result-2
overflow_add-result-2 c =
    let wide_in : 4 * c.args.p + 4 ≤ length c.args.ws.now = within c.args.ws.now c.args.p 4 (wide_is _ c.if-ws-eq64.false) c.requires.1 in
    omega (arith, wide_in, short c.args.ws.now c.requires.0)

pub offset_bounds-ws-at-3 : goal.offset_bounds-ws-at-3
offset_bounds-ws-at-3 c =
    let wide_in : 4 * c.args.p + 4 ≤ length c.args.ws.now = within c.args.ws.now c.args.p 4 (wide_is _ c.if-ws-eq64.false) c.requires.1 in
    omega (arith, wide_in, short c.args.ws.now c.requires.0)

pub bounds-ws-at-3 : goal.bounds-ws-at-3
bounds-ws-at-3 c =
    let wide_in : 4 * c.args.p + 4 ≤ length c.args.ws.now = within c.args.ws.now c.args.p 4 (wide_is _ c.if-ws-eq64.false) c.requires.1 in
    omega (arith, wide_in)

pub overflow_add-result-3 : goal.overflow_add-result-3
overflow_add-result-3 c =
    let wide_in : 4 * c.args.p + 4 ≤ length c.args.ws.now = within c.args.ws.now c.args.p 4 (wide_is _ c.if-ws-eq64.false) c.requires.1 in
    omega (arith, wide_in, short c.args.ws.now c.requires.0)

pub offset_bounds-ws-at-4 : goal.offset_bounds-ws-at-4
offset_bounds-ws-at-4 c =
    let wide_in : 4 * c.args.p + 4 ≤ length c.args.ws.now = within c.args.ws.now c.args.p 4 (wide_is _ c.if-ws-eq64.false) c.requires.1 in
    omega (arith, wide_in, short c.args.ws.now c.requires.0)

pub bounds-ws-at-4 : goal.bounds-ws-at-4
bounds-ws-at-4 c =
    let wide_in : 4 * c.args.p + 4 ≤ length c.args.ws.now = within c.args.ws.now c.args.p 4 (wide_is _ c.if-ws-eq64.false) c.requires.1 in
    omega (arith, wide_in)

pub returns : goal.returns
returns c =
    let ws = c.args.ws.now in
    let p = c.args.p in
    let z : 4 * p ≡ 4 * p + 0 = omega arith in
    ap (λ (i : ℕ). mem (record { words = get_or ws i 0 ∷ get_or ws (4 * p + 1) 0 ∷ get_or ws (4 * p + 2) 0 ∷ get_or ws (4 * p + 3) 0 ∷ [] })) z
    ∙ wide_row ws p (wide_is ws c.if-ws-eq64.false)
