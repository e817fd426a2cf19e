-- `pairing::words_of` meets its contract: so far the words of the pairs of the first e classes are noted. Assumes nothing.
use mathlib.Core.Path.{◌≡◌, refl, ap, subst}
use Prim.Native.Nat.{ℕ, ◌-◌, ◌^◌, ◌≤◌}
use native.Mathlib.Omega.{arith}
use lib.Pow.{pow_mono}
use Rattle.evalset.specs.Sets.{room}
use Rattle.pairing.specs.Sums.{entry}
use Rattle.pairing.specs.Masks.{MasksAre, lowest_of, Kept, all_pairs}
use Rattle.pairing.specs.Listed.{pair_count, Noted}
use Rattle.pairing.proofs.Words.{spelt_few}
use Rattle.pairing.proofs.Masking.{class_member}
use Rattle.pairing.proofs.Listing.{noted_none, all_noted, all_length, count_next, count_grows, list_serves}
use Rattle.pairing.proofs.Serving.{pair_small}
use Rattle.pairing.proofs.words_of.Goals as goal

pub masks_of-masks-requires : goal.masks_of-masks-requires
masks_of-masks-requires c = (c.requires.few, c.requires.fits)

pub keep_different-classes-requires : goal.keep_different-classes-requires
keep_different-classes-requires c =
    (c.requires.some, c.requires.fits, c.masks_of-masks.ensures.0)

pub overflow_sub-zeros : goal.overflow_sub-zeros
overflow_sub-zeros c =
    omega (arith, spelt_few _ _ c.args.contacts c.requires.contacts_are c.requires.few)

pub loop-e-init : goal.loop-e-init
unfolding all_pairs
loop-e-init c = (refl, noted_none _ _ _)

pub pair_words-requires : goal.pair_words-requires
pair_words-requires c =
    (omega (arith, c.requires.fits, c.keep_different-classes.ensures.few), c.loop-e.invariant.0)

pub note_words-count-requires : goal.note_words-count-requires
unfolding room
note_words-count-requires c =
    let masks = c.masks_of-masks in
    let kept = c.keep_different-classes in
    let chart = c.args.chart in
    let few = spelt_few _ chart.atoms c.args.contacts c.requires.contacts_are c.requires.few in
    let e = c.loop-e.e in
    let words = c.pair_words.ensures in
    let member = class_member _ _ chart.atoms (lowest_of chart.names) c.args.top masks.result kept.new.masks kept.result
    (omega (arith, masks.ensures.0, c.requires.fits)) masks.ensures.1 kept.ensures in (
      omega (arith, c.requires.fits, kept.ensures.few),
      omega (
        arith,
        c.loop-e.invariant.1.few,
        c.loop-e.invariant.1.long_list,
        all_length (65535 - c.args.contacts) kept.new.masks e,
        count_next e kept.result (omega arith),
        count_grows kept.result c.args.top kept.ensures.few,
        c.requires.places,
      ),
      λ f l.
          let a = member e (omega arith) in
          let b = member f (omega arith) in
          let small = pair_small chart.atoms c.args.contacts (entry kept.new.masks e) (entry kept.new.masks f) few a.3.first_is.small b.3.first_is.small in
          let is = words.are f (omega arith) in
          (omega (arith, is, small, pow_mono {i = chart.atoms} {j = 16} c.requires.few), omega (arith, is, small, c.requires.bits, c.loop-e.invariant.1.long_seen)),
    )

pub loop-e-preserved : goal.loop-e-preserved
loop-e-preserved c =
    let words = c.pair_words.ensures in (
      words.long,
      all_noted (65535 - c.args.contacts) c.keep_different-classes.new.masks c.loop-e.e _ words c.loop-e.invariant.1
          c.note_words-count.ensures,
    )

pub shape_of-seen : goal.shape_of-seen
shape_of-seen c = c.loop-e.invariant.1.long_seen

pub shape_of-list : goal.shape_of-list
shape_of-list c = c.loop-e.invariant.1.long_list

pub returns : goal.returns
unfolding room
returns c =
    let a = c.args in
    let masks = c.masks_of-masks in
    let kept = c.keep_different-classes in
    let classes = kept.new.masks in
    let zeros = 65535 - a.contacts in
    let z : c.loop-e.e ≡ kept.result = omega arith in
    let few : c.loop-e.count ≤ pair_count a.top = omega (
      arith,
      c.loop-e.invariant.1.few,
      all_length zeros classes c.loop-e.e,
      ap pair_count z,
      count_grows kept.result a.top kept.ensures.few,
    ) in
    record {
      long = c.loop-e.invariant.1.long_list;
      fits = omega (arith, few, c.loop-e.invariant.1.long_list, c.requires.places);
      are = λ atoms h.
          let top : a.top ≡ 2 ^ a.chart.names = c.requires.top_is h.few in
          list_serves a.chart atoms h a.contacts c.requires.few c.requires.contacts_are masks.result classes kept.result
          (omega (arith, top, masks.ensures.0, c.requires.fits))
          (subst (λ (x : ℕ). MasksAre a.chart.xs a.chart.ys a.chart.atoms x masks.result) top masks.ensures.1)
          (subst (λ (x : ℕ). Kept (lowest_of a.chart.names) x masks.result classes kept.result) top kept.ensures) a.seen.now a.list.now c.loop-e.seen c.loop-e.list c.loop-e.count
          c.requires.none (subst (λ (x : ℕ). Noted (all_pairs zeros classes x) a.seen.now a.list.now 0 c.loop-e.seen c.loop-e.list c.loop-e.count) z c.loop-e.invariant.1);
    }
