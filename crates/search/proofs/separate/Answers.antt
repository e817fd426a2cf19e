-- `search::separate` meets its contract: each evaluation of the first set is met once, least first, and its row takes in the second
-- set. Assumes nothing.
use mathlib.Core.Bool.{Bool}
use mathlib.Core.Path.{◌≡◌, refl, sym, ◌∙◌, subst}
use Prim.Native.Nat.{ℕ, ◌+◌, ◌<◌}
use native.Mathlib.Omega.{arith}
use Rattle.evalset.specs.Sets.{room, mem}
use Rattle.evalset.proofs.Walk.{from_zero, Step, step, stop, found_least}
use Rattle.squares.specs.Square.{square_at, reach}
use Rattle.squares.proofs.Rows.{same_reach, same_square, reach_room}
use Rattle.search.proofs.Finding.{left_over, left_drop}
use Rattle.search.proofs.Walks.{separate_none, separate_on, separate_ends}
use Rattle.search.proofs.separate.Goals as goal

pub loop-p-init : goal.loop-p-init
loop-p-init c = (refl, 0, from_zero _, separate_none _ _ _ _)

pub join_at-requires : goal.join_at-requires
join_at-requires c = same_square c.loop-p.rows c.args.rows.now c.loop-p.invariant.0 c.requires

-- `taken`: the evaluation that was taken
pub loop-p-smaller : goal.loop-p-smaller
loop-p-smaller c =
    let found = found_least (mem c.loop-p.rest) room c.in-Some.p (sym c.least.ensures ∙ c.in-Some.is) in
    subst (λ (set : ℕ → Bool). left_over set < left_over (mem c.loop-p.rest)) (sym c.without-rest.ensures)
    (left_drop (mem c.loop-p.rest) c.in-Some.p found.within found.passes)

pub loop-p-preserved : goal.loop-p-preserved
loop-p-preserved c =
    let taken : Step room c.loop-p.invariant.1 c.in-Some.p (mem c.args.first) (mem c.loop-p.rest) = step room _ _ _ c.loop-p.invariant.2 _
    (sym c.least.ensures ∙ c.in-Some.is) in
    let a = c.args in
    let loop = c.loop-p in
    let p = c.in-Some.p in
    let joined = c.join_at.ensures in
    let wide : reach loop.rows ≡ reach a.rows.now = same_reach loop.rows a.rows.now loop.invariant.0 in (
      joined.long ∙ loop.invariant.0,
      p + 1,
      c.without-rest.ensures ∙ taken.rest,
      separate_on _ _ _ _ loop.invariant.1 p _ taken (square_at loop.rows) _ loop.invariant.3
          (λ q l m. joined.here q (omega (arith, wide, l)) (omega (arith, wide, m))) joined.others,
    )

pub shape_of-rows : goal.shape_of-rows
shape_of-rows c = c.loop-p.invariant.0

pub returns : goal.returns
returns c =
    let loop = c.loop-p in (
      loop.invariant.0,
      separate_ends _ _ _ _ loop.invariant.1 _ loop.invariant.3 (reach_room c.args.rows.now)
          (stop room loop.invariant.1 _ _ loop.invariant.2 (sym c.least.ensures ∙ c.in_default.is)),
    )
