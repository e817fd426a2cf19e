-- `pairing::note_words` meets its contract: so far the first f words are noted. Assumes nothing.
use mathlib.Core.Path.{◌≡◌, subst}
use Prim.Native.Nat.{ℕ, ◌+◌}
use native.Mathlib.Omega.{arith}
use Rattle.evalset.specs.Sets.{room}
use Rattle.pairing.specs.Listed.{entries_of, Noted}
use Rattle.pairing.proofs.Listing.{noted_none, entry_noted, entries_length}
use Rattle.pairing.proofs.note_words.Goals as goal

pub loop-f-init : goal.loop-f-init
unfolding entries_of
loop-f-init c = noted_none _ _ _

pub offset_bounds-words-f : goal.offset_bounds-words-f
unfolding room
offset_bounds-words-f c = omega arith

pub bounds-words-f : goal.bounds-words-f
unfolding room
bounds-words-f c = omega arith

pub note-noted-requires : goal.note-noted-requires
note-noted-requires c =
    let k = c.loop-f in
    let small = c.requires.2 k.f (omega arith) in
    (small.0, omega (arith, small.1, k.invariant.long_seen), omega (arith, k.invariant.few, k.invariant.long_list, entries_length c.args.words.now k.f))

pub loop-f-preserved : goal.loop-f-preserved
loop-f-preserved c =
    let k = c.loop-f in
    entry_noted c.args.words.now k.f k.invariant c.note-noted.ensures

pub shape_of-seen : goal.shape_of-seen
shape_of-seen c = c.loop-f.invariant.long_seen

pub shape_of-list : goal.shape_of-list
shape_of-list c = c.loop-f.invariant.long_list

pub returns : goal.returns
returns c =
    let k = c.loop-f in
    let a = c.args in
    let z : k.f ≡ a.e + 1 = omega arith in
    subst (λ (x : ℕ). Noted (entries_of a.words.now x) a.seen.now a.list.now a.count k.seen k.list k.noted) z k.invariant
