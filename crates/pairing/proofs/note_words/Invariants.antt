-- `pairing::note_words` meets its contract: so far the first f words are noted. Assumes nothing.
use Prim.Native.Nat.{◌+◌, ◌-◌, ◌≤◌}
use Rattle.pairing.specs.Listed.{entries_of, Noted}
use Rattle.pairing.proofs.note_words.Given as goal

abbrev pub invariant-loop-f : goal.invariant-loop-f
invariant-loop-f l =
    Noted (entries_of l.words l.f) l.initial.seen l.initial.list l.initial.noted l.seen l.list l.noted
