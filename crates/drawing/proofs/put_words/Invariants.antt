-- `drawing::put_words` meets its contract: so far the bytes of the first i words are put. Assumes nothing.
use mathlib.Core.Path.{◌≡◌}
use Prim.Native.Nat.{◌*◌}
use lib.ListN.{take}
use Rattle.lists.specs.Putting.{Puts}
use Rattle.drawing.specs.Drawn.{bytes_of}
use Rattle.drawing.proofs.put_words.Given as goal

abbrev pub invariant-loop-word : goal.invariant-loop-word
invariant-loop-word l = (l.end ≡ 4 * l.word-index) × Puts 0 (bytes_of (take l.word-index l.words)) l.initial.buffer l.buffer l.end
