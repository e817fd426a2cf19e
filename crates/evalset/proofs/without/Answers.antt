-- `evalset::without` meets its contract: bit e % 64 of word e / 64 taken away; from room up there is none.
-- Assumes nothing.
use mathlib.Core.Path.{sym}
use mathlib.Core.Bool.{Bool, not, ◌&&◌, and-true}
use mathlib.Mathlib.Logic.Function.Defs.{congr_fun}
use Rattle.evalset.specs.Sets.{room}
use Rattle.evalset.proofs.Members.{mem_above, drop_out}
use Rattle.evalset.proofs.Words.{changed}
use Rattle.evalset.proofs.without.Goals as goal

pub returns-then-e-lt-ROOM : goal.returns-then-e-lt-ROOM
unfolding room
returns-then-e-lt-ROOM c =
    changed (λ (a b : Bool). a && not b) and-true _ (c.well_formed.0.1.1.0.1.0.1) _ c.if-e-lt-ROOM.true _ (congr_fun c.word_without.ensures)

pub returns-else-e-lt-ROOM : goal.returns-else-e-lt-ROOM
unfolding room
returns-else-e-lt-ROOM c = sym (drop_out _ _ (mem_above _ _ c.if-e-lt-ROOM.false))
