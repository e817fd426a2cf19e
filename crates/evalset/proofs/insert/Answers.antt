-- `evalset::insert` meets its contract: bit e % 64 of word e / 64 put in; from room up nothing is.
-- Assumes nothing.
use mathlib.Core.Path.{sym, ◌∙◌, fun_ext}
use mathlib.Core.Bool.{◌||◌, or-false}
use Rattle.evalset.specs.Sets.{room, mem}
use Rattle.evalset.proofs.Members.{add_in, add_out}
use Rattle.evalset.proofs.Words.{changed}
use Rattle.evalset.proofs.insert.Goals as goal

pub returns-then-e-lt-ROOM : goal.returns-then-e-lt-ROOM
unfolding room
returns-then-e-lt-ROOM c =
    changed ◌||◌ or-false _ (c.well_formed.0.1.1.0.1.0.1) _ c.if-e-lt-ROOM.true _ c.word_with.ensures
    ∙ sym (fun_ext (add_in (mem c.args.s) _ c.if-e-lt-ROOM.true))

pub returns-else-e-lt-ROOM : goal.returns-else-e-lt-ROOM
unfolding room
returns-else-e-lt-ROOM c = sym (add_out _ _ c.if-e-lt-ROOM.false)
