-- `evalset::contains` meets its contract: bit e % 64 of word e / 64 by a shift, and no bit from room up.
-- Assumes nothing.
use mathlib.Core.Path.{sym, ◌∙◌}
use borrow.Author.Tests.{le-ltb}
use Rattle.evalset.specs.Bit.{bit}
use Rattle.evalset.specs.Sets.{room}
use Rattle.evalset.proofs.Members.{mem_above}
use Rattle.evalset.proofs.Words.{mem_bit}
use Rattle.evalset.proofs.contains.Goals as goal

pub returns-then-e-lt-ROOM : goal.returns-then-e-lt-ROOM
unfolding bit room
returns-then-e-lt-ROOM c = sym (mem_bit _ _ c.if-e-lt-ROOM.true)

pub returns-else-e-lt-ROOM : goal.returns-else-e-lt-ROOM
unfolding room
returns-else-e-lt-ROOM c = le-ltb _ room c.if-e-lt-ROOM.false ∙ sym (mem_above _ _ c.if-e-lt-ROOM.false)
