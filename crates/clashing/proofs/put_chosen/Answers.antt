-- `clashing::put_chosen` meets its contract: so far the chosen ones of the first i rules are put. Assumes nothing.
use mathlib.Core.Path.{◌≡◌, refl}
use native.Mathlib.Omega.{arith}
use lib.ListN.{length}
use borrow.Author.Rules.{rules}
use Rattle.clashing.proofs.Gathering.{put_none, next_safe, put_pass, piece_fits, put_more, put_all}
use Rattle.clashing.proofs.put_chosen.Goals as goal

pub loop-i-init : goal.loop-i-init
loop-i-init c = put_none _ _ _ _ _ c.requires.0 refl

pub bounds-set-i : goal.bounds-set-i
bounds-set-i c = omega (arith, c.requires.1)

pub loop-i-preserved-then-not-needed : goal.loop-i-preserved-then-not-needed
loop-i-preserved-then-not-needed c =
    let wide : length c.args.set ≡ 16 = search rules in
    let k = c.loop-i in
    put_pass _ _ _ _ _ _ _ _ _ _ k.invariant (omega arith) (omega (arith, wide, c.requires.1)) c.if-not-needed.true

pub slice_bounds-put_part-count : goal.slice_bounds-put_part-count
slice_bounds-put_part-count c =
    let wide : length c.args.set ≡ 16 = search rules in
    (next_safe _ _ _ _ _ _ _ _ _ _ c.loop-i.invariant (omega arith) (omega (arith, wide, c.requires.1))).0.ordered

pub put_part-at-requires : goal.put_part-at-requires
put_part-at-requires c =
    let wide : length c.args.set ≡ 16 = search rules in
    let k = c.loop-i in
    piece_fits _ _ _ _ _ _ _ _ _ _ k.invariant (omega arith) (omega (arith, wide, c.requires.1)) c.if-not-needed.false c.requires.2 c.requires.1

pub offset_bounds-chosen-count : goal.offset_bounds-chosen-count
offset_bounds-chosen-count c =
    let k = c.loop-i in
    omega (arith, k.invariant.count_few, c.requires.1)

pub bounds-chosen-count : goal.bounds-chosen-count
bounds-chosen-count c =
    let k = c.loop-i in
    omega (arith, k.invariant.count_few, c.requires.1)

pub overflow_add-count : goal.overflow_add-count
overflow_add-count c =
    let k = c.loop-i in
    omega (arith, k.invariant.count_few, c.requires.1)

pub loop-i-preserved : goal.loop-i-preserved
loop-i-preserved c =
    let wide : length c.args.set ≡ 16 = search rules in
    let k = c.loop-i in
    put_more _ _ _ _ _ _ _ _ _ _ k.invariant (omega arith) (omega (arith, wide, c.requires.1)) c.if-not-needed.false c.requires.2 c.requires.1 _ _
    c.put_part-at.ensures.0 c.put_part-at.ensures.1

pub shape_of-out : goal.shape_of-out
shape_of-out c = c.loop-i.invariant.out_long

pub returns : goal.returns
returns c =
    let wide : length c.args.set ≡ 16 = search rules in
    let k = c.loop-i in (
      record {
        few = omega (arith, k.invariant.count_few, k.invariant.i_few, k.invariant.kept_long, c.requires.1);
        coded = put_all _ _ _ _ _ _ _ _ _ _ k.invariant (omega arith) (omega (arith, wide, c.requires.1));
      },
      k.invariant.out_long,
    )
