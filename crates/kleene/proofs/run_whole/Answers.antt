-- `kleene::run_whole` meets its contract: each turn keeps `Whole`, and what a sign takes is there because the code is safe.
-- Assumes nothing.
use mathlib.Core.Path.{refl}
use Prim.Native.Nat.{◌-◌, ◌≤◌, ◌<◌}
use native.Mathlib.Omega.{arith}
use lib.ListN.{get_or}
use Rattle.kleene.proofs.Whole.{two_there, room_there, whole_turn, whole_join, whole_push, whole_begins, whole_ends, and_word, or_word, not_word, implies_word, iff_word}
use Rattle.kleene.proofs.run_whole.Goals as goal
use Rattle.kleene.proofs.run_whole.Goals.{in-0, in-1, in-2, in-3, in-4, in_default}

pub loop-c-init : goal.loop-c-init
loop-c-init c = whole_begins _ _ _ _ c.requires.0 c.requires.1

-- `both`: a sign that joins finds two values
pub overflow_sub-height : goal.overflow_sub-height
overflow_sub-height c =
    let both : (2 ≤ c.loop-c.height) × (c.loop-c.height ≤ 128) = two_there c.loop-c.invariant (omega arith) 1 c.in-1.is refl in
    omega arith

pub offset_bounds-stack-height : goal.offset_bounds-stack-height
offset_bounds-stack-height c =
    let both : (2 ≤ c.loop-c.height) × (c.loop-c.height ≤ 128) = two_there c.loop-c.invariant (omega arith) 1 c.in-1.is refl in
    omega arith

pub bounds-stack-height : goal.bounds-stack-height
bounds-stack-height c =
    let both : (2 ≤ c.loop-c.height) × (c.loop-c.height ≤ 128) = two_there c.loop-c.invariant (omega arith) 1 c.in-1.is refl in
    omega arith

pub overflow_sub-height-in-2 : goal.overflow_sub-height-in-2
overflow_sub-height-in-2 c =
    let both_2 : (2 ≤ c.loop-c.height) × (c.loop-c.height ≤ 128) = two_there c.loop-c.invariant (omega arith) 2 c.in-2.is refl in
    omega arith

pub offset_bounds-stack-height-in-2 : goal.offset_bounds-stack-height-in-2
offset_bounds-stack-height-in-2 c =
    let both_2 : (2 ≤ c.loop-c.height) × (c.loop-c.height ≤ 128) = two_there c.loop-c.invariant (omega arith) 2 c.in-2.is refl in
    omega arith

pub bounds-stack-height-in-2 : goal.bounds-stack-height-in-2
bounds-stack-height-in-2 c =
    let both_2 : (2 ≤ c.loop-c.height) × (c.loop-c.height ≤ 128) = two_there c.loop-c.invariant (omega arith) 2 c.in-2.is refl in
    omega arith

pub overflow_sub-height-in-3 : goal.overflow_sub-height-in-3
overflow_sub-height-in-3 c =
    let both_3 : (2 ≤ c.loop-c.height) × (c.loop-c.height ≤ 128) = two_there c.loop-c.invariant (omega arith) 3 c.in-3.is refl in
    omega arith

pub offset_bounds-stack-height-in-3 : goal.offset_bounds-stack-height-in-3
offset_bounds-stack-height-in-3 c =
    let both_3 : (2 ≤ c.loop-c.height) × (c.loop-c.height ≤ 128) = two_there c.loop-c.invariant (omega arith) 3 c.in-3.is refl in
    omega arith

pub bounds-stack-height-in-3 : goal.bounds-stack-height-in-3
bounds-stack-height-in-3 c =
    let both_3 : (2 ≤ c.loop-c.height) × (c.loop-c.height ≤ 128) = two_there c.loop-c.invariant (omega arith) 3 c.in-3.is refl in
    omega arith

pub overflow_sub-height-in-4 : goal.overflow_sub-height-in-4
overflow_sub-height-in-4 c =
    let both_4 : (2 ≤ c.loop-c.height) × (c.loop-c.height ≤ 128) = two_there c.loop-c.invariant (omega arith) 4 c.in-4.is refl in
    omega arith

pub offset_bounds-stack-height-in-4 : goal.offset_bounds-stack-height-in-4
offset_bounds-stack-height-in-4 c =
    let both_4 : (2 ≤ c.loop-c.height) × (c.loop-c.height ≤ 128) = two_there c.loop-c.invariant (omega arith) 4 c.in-4.is refl in
    omega arith

pub bounds-stack-height-in-4 : goal.bounds-stack-height-in-4
bounds-stack-height-in-4 c =
    let both_4 : (2 ≤ c.loop-c.height) × (c.loop-c.height ≤ 128) = two_there c.loop-c.invariant (omega arith) 4 c.in-4.is refl in
    omega arith

-- `leaf`: any other sign pushes, and finds room
pub offset_bounds-stack-height-in_default : goal.offset_bounds-stack-height-in_default
offset_bounds-stack-height-in_default c =
    let leaf : 5 ≤ get_or c.args.code.now c.loop-c.c-index 0 = omega arith in
    let space : (c.loop-c.height < 128) × (get_or c.args.code.now c.loop-c.c-index 0 < 23) = room_there c.loop-c.invariant (omega arith) leaf in
    omega arith

pub bounds-stack-height-in_default : goal.bounds-stack-height-in_default
bounds-stack-height-in_default c =
    let leaf : 5 ≤ get_or c.args.code.now c.loop-c.c-index 0 = omega arith in
    let space : (c.loop-c.height < 128) × (get_or c.args.code.now c.loop-c.c-index 0 < 23) = room_there c.loop-c.invariant (omega arith) leaf in
    space.0

pub overflow_add-height : goal.overflow_add-height
overflow_add-height c =
    let leaf : 5 ≤ get_or c.args.code.now c.loop-c.c-index 0 = omega arith in
    let space : (c.loop-c.height < 128) × (get_or c.args.code.now c.loop-c.c-index 0 < 23) = room_there c.loop-c.invariant (omega arith) leaf in
    omega arith

pub pushed-top-requires : goal.pushed-top-requires
pushed-top-requires c =
    let leaf : 5 ≤ get_or c.args.code.now c.loop-c.c-index 0 = omega arith in
    let space : (c.loop-c.height < 128) × (get_or c.args.code.now c.loop-c.c-index 0 < 23) = room_there c.loop-c.invariant (omega arith) leaf in
    (leaf, space.1)

pub loop-c-preserved : goal.loop-c-preserved
loop-c-preserved c =
    let k = c.loop-c in
    let under = get_or k.stack (k.height - 1) 0 in
    elim c.match-c.branch [
      | in-0 w ↦ rw (w.stack-is, w.top-is, w.height-is)
          (whole_turn k.invariant (omega arith) _ w.in-0.is (λ e b. not_word k.top k.top e _ (w.flipped-top.ensures e b)))
      | in-1 w ↦ rw (w.stack-is, w.top-is, w.height-is)
          (whole_join k.invariant (omega arith) 1 _ w.in-1.is refl (λ e b. and_word under k.top e))
      | in-2 w ↦ rw (w.stack-is, w.top-is, w.height-is)
          (whole_join k.invariant (omega arith) 2 _ w.in-2.is refl (λ e b. or_word under k.top e))
      | in-3 w ↦ rw (w.stack-is, w.top-is, w.height-is)
          (whole_join k.invariant (omega arith) 3 _ w.in-3.is refl (λ e b. implies_word under k.top e _ (w.flipped-top-in-3.ensures e b)))
      | in-4 w ↦ rw (w.stack-is, w.top-is, w.height-is)
          (whole_join k.invariant (omega arith) 4 _ w.in-4.is refl (λ e b. iff_word under k.top e _ (w.flipped-top-in-4.ensures e b)))
      | in_default w ↦ rw (w.stack-is, w.top-is, w.height-is)
          (let leaf : 5 ≤ get_or c.args.code.now k.c-index 0 = omega arith in whole_push k.invariant (omega arith) _ leaf w.pushed-top.ensures)
    ]

pub returns : goal.returns
returns c = (c.loop-c.invariant.size, whole_ends c.loop-c.invariant (omega arith))
