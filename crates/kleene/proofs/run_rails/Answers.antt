-- `kleene::run_rails` meets its contract: each turn keeps `Railed`, and what a sign takes is there because the code is safe.
-- Assumes nothing.
use mathlib.Core.Path.{refl}
use Prim.Native.Nat.{◌-◌, ◌≤◌, ◌<◌}
use native.Mathlib.Omega.{arith}
use lib.ListN.{get_or}
use Rattle.kleene.proofs.Railed.{two_there, room_there, rails_turn, rails_join, rails_push, rails_begin, rails_end, and_rails, or_rails, implies_rails, iff_rails, push_rails}
use Rattle.kleene.proofs.run_rails.Goals as goal
use Rattle.kleene.proofs.run_rails.Goals.{in-0, in-1, in-2, in-3, in-4, in_default}

pub loop-c-init : goal.loop-c-init
loop-c-init c = rails_begin _ _ _ _ _ _ _ c.requires.0 c.requires.1 c.requires.2

-- `both`: a sign that joins finds two values
pub overflow_sub-height : goal.overflow_sub-height
overflow_sub-height c =
    let both : (2 ≤ c.loop-c.height) × (c.loop-c.height ≤ 128) = two_there c.loop-c.invariant (omega arith) 1 c.in-1.is refl in
    omega arith

pub offset_bounds-ys-height : goal.offset_bounds-ys-height
offset_bounds-ys-height c =
    let both : (2 ≤ c.loop-c.height) × (c.loop-c.height ≤ 128) = two_there c.loop-c.invariant (omega arith) 1 c.in-1.is refl in
    omega arith

pub bounds-ys-height : goal.bounds-ys-height
bounds-ys-height c =
    let both : (2 ≤ c.loop-c.height) × (c.loop-c.height ≤ 128) = two_there c.loop-c.invariant (omega arith) 1 c.in-1.is refl in
    omega arith

pub offset_bounds-ns-height : goal.offset_bounds-ns-height
offset_bounds-ns-height c =
    let both : (2 ≤ c.loop-c.height) × (c.loop-c.height ≤ 128) = two_there c.loop-c.invariant (omega arith) 1 c.in-1.is refl in
    omega arith

pub bounds-ns-height : goal.bounds-ns-height
bounds-ns-height c =
    let both : (2 ≤ c.loop-c.height) × (c.loop-c.height ≤ 128) = two_there c.loop-c.invariant (omega arith) 1 c.in-1.is refl in
    omega arith

pub overflow_sub-height-in-2 : goal.overflow_sub-height-in-2
overflow_sub-height-in-2 c =
    let both_2 : (2 ≤ c.loop-c.height) × (c.loop-c.height ≤ 128) = two_there c.loop-c.invariant (omega arith) 2 c.in-2.is refl in
    omega arith

pub offset_bounds-ys-height-in-2 : goal.offset_bounds-ys-height-in-2
offset_bounds-ys-height-in-2 c =
    let both_2 : (2 ≤ c.loop-c.height) × (c.loop-c.height ≤ 128) = two_there c.loop-c.invariant (omega arith) 2 c.in-2.is refl in
    omega arith

pub bounds-ys-height-in-2 : goal.bounds-ys-height-in-2
bounds-ys-height-in-2 c =
    let both_2 : (2 ≤ c.loop-c.height) × (c.loop-c.height ≤ 128) = two_there c.loop-c.invariant (omega arith) 2 c.in-2.is refl in
    omega arith

pub offset_bounds-ns-height-in-2 : goal.offset_bounds-ns-height-in-2
offset_bounds-ns-height-in-2 c =
    let both_2 : (2 ≤ c.loop-c.height) × (c.loop-c.height ≤ 128) = two_there c.loop-c.invariant (omega arith) 2 c.in-2.is refl in
    omega arith

pub bounds-ns-height-in-2 : goal.bounds-ns-height-in-2
bounds-ns-height-in-2 c =
    let both_2 : (2 ≤ c.loop-c.height) × (c.loop-c.height ≤ 128) = two_there c.loop-c.invariant (omega arith) 2 c.in-2.is refl in
    omega arith

pub overflow_sub-height-in-3 : goal.overflow_sub-height-in-3
overflow_sub-height-in-3 c =
    let both_3 : (2 ≤ c.loop-c.height) × (c.loop-c.height ≤ 128) = two_there c.loop-c.invariant (omega arith) 3 c.in-3.is refl in
    omega arith

pub offset_bounds-ns-height-in-3 : goal.offset_bounds-ns-height-in-3
offset_bounds-ns-height-in-3 c =
    let both_3 : (2 ≤ c.loop-c.height) × (c.loop-c.height ≤ 128) = two_there c.loop-c.invariant (omega arith) 3 c.in-3.is refl in
    omega arith

pub bounds-ns-height-in-3 : goal.bounds-ns-height-in-3
bounds-ns-height-in-3 c =
    let both_3 : (2 ≤ c.loop-c.height) × (c.loop-c.height ≤ 128) = two_there c.loop-c.invariant (omega arith) 3 c.in-3.is refl in
    omega arith

pub offset_bounds-ys-height-in-3 : goal.offset_bounds-ys-height-in-3
offset_bounds-ys-height-in-3 c =
    let both_3 : (2 ≤ c.loop-c.height) × (c.loop-c.height ≤ 128) = two_there c.loop-c.invariant (omega arith) 3 c.in-3.is refl in
    omega arith

pub bounds-ys-height-in-3 : goal.bounds-ys-height-in-3
bounds-ys-height-in-3 c =
    let both_3 : (2 ≤ c.loop-c.height) × (c.loop-c.height ≤ 128) = two_there c.loop-c.invariant (omega arith) 3 c.in-3.is refl in
    omega arith

pub overflow_sub-height-in-4 : goal.overflow_sub-height-in-4
overflow_sub-height-in-4 c =
    let both_4 : (2 ≤ c.loop-c.height) × (c.loop-c.height ≤ 128) = two_there c.loop-c.invariant (omega arith) 4 c.in-4.is refl in
    omega arith

pub offset_bounds-ys-height-in-4 : goal.offset_bounds-ys-height-in-4
offset_bounds-ys-height-in-4 c =
    let both_4 : (2 ≤ c.loop-c.height) × (c.loop-c.height ≤ 128) = two_there c.loop-c.invariant (omega arith) 4 c.in-4.is refl in
    omega arith

pub bounds-ys-height-in-4 : goal.bounds-ys-height-in-4
bounds-ys-height-in-4 c =
    let both_4 : (2 ≤ c.loop-c.height) × (c.loop-c.height ≤ 128) = two_there c.loop-c.invariant (omega arith) 4 c.in-4.is refl in
    omega arith

pub offset_bounds-ns-height-in-4 : goal.offset_bounds-ns-height-in-4
offset_bounds-ns-height-in-4 c =
    let both_4 : (2 ≤ c.loop-c.height) × (c.loop-c.height ≤ 128) = two_there c.loop-c.invariant (omega arith) 4 c.in-4.is refl in
    omega arith

pub bounds-ns-height-in-4 : goal.bounds-ns-height-in-4
bounds-ns-height-in-4 c =
    let both_4 : (2 ≤ c.loop-c.height) × (c.loop-c.height ≤ 128) = two_there c.loop-c.invariant (omega arith) 4 c.in-4.is refl in
    omega arith

pub offset_bounds-ys-height-in-4-2 : goal.offset_bounds-ys-height-in-4-2
offset_bounds-ys-height-in-4-2 c =
    let both_4 : (2 ≤ c.loop-c.height) × (c.loop-c.height ≤ 128) = two_there c.loop-c.invariant (omega arith) 4 c.in-4.is refl in
    omega arith

pub bounds-ys-height-in-4-2 : goal.bounds-ys-height-in-4-2
bounds-ys-height-in-4-2 c =
    let both_4 : (2 ≤ c.loop-c.height) × (c.loop-c.height ≤ 128) = two_there c.loop-c.invariant (omega arith) 4 c.in-4.is refl in
    omega arith

pub offset_bounds-ns-height-in-4-2 : goal.offset_bounds-ns-height-in-4-2
offset_bounds-ns-height-in-4-2 c =
    let both_4 : (2 ≤ c.loop-c.height) × (c.loop-c.height ≤ 128) = two_there c.loop-c.invariant (omega arith) 4 c.in-4.is refl in
    omega arith

pub bounds-ns-height-in-4-2 : goal.bounds-ns-height-in-4-2
bounds-ns-height-in-4-2 c =
    let both_4 : (2 ≤ c.loop-c.height) × (c.loop-c.height ≤ 128) = two_there c.loop-c.invariant (omega arith) 4 c.in-4.is refl in
    omega arith

-- `leaf`: any other sign pushes, and finds room
pub offset_bounds-ys-height-in_default : goal.offset_bounds-ys-height-in_default
offset_bounds-ys-height-in_default c =
    let leaf : 5 ≤ get_or c.args.code.now c.loop-c.c-index 0 = omega arith in
    let space : (c.loop-c.height < 128) × (get_or c.args.code.now c.loop-c.c-index 0 < 23) = room_there c.loop-c.invariant (omega arith) leaf in
    omega arith

pub bounds-ys-height-in_default : goal.bounds-ys-height-in_default
bounds-ys-height-in_default c =
    let leaf : 5 ≤ get_or c.args.code.now c.loop-c.c-index 0 = omega arith in
    let space : (c.loop-c.height < 128) × (get_or c.args.code.now c.loop-c.c-index 0 < 23) = room_there c.loop-c.invariant (omega arith) leaf in
    space.0

pub offset_bounds-ns-height-in_default : goal.offset_bounds-ns-height-in_default
offset_bounds-ns-height-in_default c =
    let leaf : 5 ≤ get_or c.args.code.now c.loop-c.c-index 0 = omega arith in
    let space : (c.loop-c.height < 128) × (get_or c.args.code.now c.loop-c.c-index 0 < 23) = room_there c.loop-c.invariant (omega arith) leaf in
    omega arith

pub bounds-ns-height-in_default : goal.bounds-ns-height-in_default
bounds-ns-height-in_default c =
    let leaf : 5 ≤ get_or c.args.code.now c.loop-c.c-index 0 = omega arith in
    let space : (c.loop-c.height < 128) × (get_or c.args.code.now c.loop-c.c-index 0 < 23) = room_there c.loop-c.invariant (omega arith) leaf in
    space.0

pub overflow_add-height : goal.overflow_add-height
overflow_add-height c =
    let leaf : 5 ≤ get_or c.args.code.now c.loop-c.c-index 0 = omega arith in
    let space : (c.loop-c.height < 128) × (get_or c.args.code.now c.loop-c.c-index 0 < 23) = room_there c.loop-c.invariant (omega arith) leaf in
    omega arith

pub pushed-y-requires : goal.pushed-y-requires
pushed-y-requires c =
    let leaf : 5 ≤ get_or c.args.code.now c.loop-c.c-index 0 = omega arith in
    let space : (c.loop-c.height < 128) × (get_or c.args.code.now c.loop-c.c-index 0 < 23) = room_there c.loop-c.invariant (omega arith) leaf in
    (leaf, space.1)

pub pushed_no-n-requires : goal.pushed_no-n-requires
pushed_no-n-requires c =
    let leaf : 5 ≤ get_or c.args.code.now c.loop-c.c-index 0 = omega arith in
    let space : (c.loop-c.height < 128) × (get_or c.args.code.now c.loop-c.c-index 0 < 23) = room_there c.loop-c.invariant (omega arith) leaf in
    (leaf, space.1)

pub loop-c-preserved : goal.loop-c-preserved
loop-c-preserved c =
    let k = c.loop-c in
    let a = c.args in
    let y = get_or k.ys (k.height - 1) 0 in
    let n = get_or k.ns (k.height - 1) 0 in
    elim c.match-c.branch [
      | in-0 w ↦ rw (w.ys-is, w.ns-is, w.y-is, w.n-is, w.height-is) (rails_turn k.invariant (omega arith) w.in-0.is)
      | in-1 w ↦ rw (w.ys-is, w.ns-is, w.y-is, w.n-is, w.height-is)
          (rails_join k.invariant (omega arith) 1 _ _ w.in-1.is refl (λ e. and_rails y n k.y k.n e))
      | in-2 w ↦ rw (w.ys-is, w.ns-is, w.y-is, w.n-is, w.height-is)
          (rails_join k.invariant (omega arith) 2 _ _ w.in-2.is refl (λ e. or_rails y n k.y k.n e))
      | in-3 w ↦ rw (w.ys-is, w.ns-is, w.y-is, w.n-is, w.height-is)
          (rails_join k.invariant (omega arith) 3 _ _ w.in-3.is refl (λ e. implies_rails y n k.y k.n e))
      | in-4 w ↦ rw (w.ys-is, w.ns-is, w.y-is, w.n-is, w.height-is)
          (rails_join k.invariant (omega arith) 4 _ _ w.in-4.is refl (λ e. iff_rails y n k.y k.n e))
      | in_default w ↦ rw (w.ys-is, w.ns-is, w.y-is, w.n-is, w.height-is)
          (let leaf : 5 ≤ get_or a.code.now k.c-index 0 = omega arith in rails_push k.invariant (omega arith) _ _ leaf
          (λ e b. push_rails a.yes.now a.no.now e (get_or a.code.now k.c-index 0) _ _ (w.pushed-y.ensures e b) (w.pushed_no-n.ensures a.yes.now e b)))
    ]

pub returns : goal.returns
returns c =
    (c.loop-c.invariant.size_yes, c.loop-c.invariant.size_no, rails_end c.loop-c.invariant (omega arith))
