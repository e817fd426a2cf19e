-- `pairing::note` meets its contract: a word that was seen is in the list already. Assumes nothing.
use borrow.Author.Tests.{eq-eqb}
use Rattle.evalset.specs.Bit.{bit}
use Rattle.pairing.proofs.Listing.{note_seen, note_new}
use Rattle.pairing.proofs.note.Goals as goal

pub returns-then-word-k-eq1 : goal.returns-then-word-k-eq1
unfolding bit
returns-then-word-k-eq1 c = note_seen _ _ _ _ (eq-eqb _ 1 c.if-word-k-eq1.true)

pub returns : goal.returns
returns c = note_new _ _ _ _ c.requires.1 c.requires.2
