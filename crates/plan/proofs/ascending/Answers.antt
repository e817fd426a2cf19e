-- `plan::ascending` meets its contract: the walk meets the members in rising order, and each is put after those before it.
-- Assumes nothing.
use mathlib.Core.Path.{◌≡◌, refl, sym, ap, ap₂, ◌∙◌}
use mathlib.Core.List.{List}
use Prim.Native.Nat.{ℕ, ◌+◌, ◌<◌}
use native.Mathlib.Omega.{arith}
use lib.ListN.{length, set}
use Rattle.lists.proofs.Below.{keep_length, keep_cut, keep_step, count_step}
use Rattle.lists.proofs.Padded.{pad_set}
use Rattle.lists.specs.Padded.{pad}
use Rattle.lists.specs.Search.{keep, below}
use Rattle.evalset.specs.Sets.{room, mem}
use Rattle.evalset.proofs.Walk.{from_zero, Step, step, stop}
use Rattle.plan.proofs.ascending.Goals as goal

-- the evaluation that was taken
taken : (c : goal.In-Some)
    → Step room c.loop-from.from c.in-Some.e
    (mem c.args.s) (mem c.loop-from.rest)
taken c =
    step room _ _ _ c.loop-from.invariant.1 _
    (sym c.least.ensures ∙ c.in-Some.is)

-- there is room for it
fits : (c : goal.In-Some) → c.loop-from.count < room
fits c =
    let loop = c.loop-from in
    omega (arith, loop.invariant.2, (taken c).within, (taken c).low, keep_length (mem c.args.s) loop.from)

pub loop-from-init : goal.loop-from-init
unfolding room pad
loop-from-init c = (omega arith, from_zero _, refl, refl)

pub returns-in_default : goal.returns-in_default
returns-in_default c =
    let loop = c.loop-from in
    let rest = stop room loop.from _ _ loop.invariant.1 (sym c.least.ensures ∙ c.in_default.is) in
    let whole = sym (keep_cut _ loop.from room loop.invariant.0 rest) in
    (loop.invariant.2 ∙ ap length whole, loop.invariant.3 ∙ ap (pad room) whole)

pub overflow_cast-points : goal.overflow_cast-points
unfolding room
overflow_cast-points c = omega (arith, (taken c).within)

pub bounds-points-count : goal.bounds-points-count
unfolding room
bounds-points-count c = fits c

pub overflow_add-from : goal.overflow_add-from
unfolding room
overflow_add-from c = omega (arith, (taken c.before).within)

pub overflow_add-count : goal.overflow_add-count
unfolding room
overflow_add-count c = omega (arith, fits c.before)

pub loop-from-smaller : goal.loop-from-smaller
unfolding room
loop-from-smaller c = omega (arith, (taken c.before).within, (taken c.before).low)

pub loop-from-preserved : goal.loop-from-preserved
loop-from-preserved c =
    let t = taken c.before in
    let loop = c.loop-from in
    let e = c.in-Some.e in
    let so_far : List ℕ = keep (mem c.args.s) (below loop.from) in (
      omega (arith, t.within),
      c.without-rest.ensures ∙ t.rest,
      ap (λ (x : ℕ). x + 1) loop.invariant.2 ∙ sym (count_step _ _ _ t.low t.passes t.between),
      ap₂ (λ (x : List ℕ) (y : ℕ). set x y e) loop.invariant.3 loop.invariant.2
          ∙ pad_set room so_far (length so_far) e refl (omega (arith, fits c.before, loop.invariant.2))
          ∙ ap (pad room) (sym (keep_step _ _ _ t.low t.passes t.between)),
    )

pub returns : goal.returns
unfolding room
returns c =
    let loop = c.loop-from in
    let z : loop.from ≡ room = omega (arith, loop.invariant.0) in (
      loop.invariant.2 ∙ ap (λ (x : ℕ). length (keep (mem c.args.s) (below x))) z,
      loop.invariant.3 ∙ ap (λ (x : ℕ). pad room (keep (mem c.args.s) (below x))) z,
    )
