-- `supportlog::put_words` meets its contract: so far the first i words are put. Assumes nothing.
use mathlib.Core.Path.{◌≡◌}
use Prim.Native.Nat.{◌+◌, ◌*◌}
use lib.ListN.{take}
use Rattle.lists.specs.Search.{collect}
use Rattle.lists.specs.Putting.{Puts}
use Rattle.supportlog.specs.Answers.{hex_word}
use Rattle.supportlog.proofs.put_words.Given as goal

abbrev pub invariant-loop-i : goal.invariant-loop-i
invariant-loop-i l =
    (l.end ≡ l.at + 9 * l.i) × Puts l.at (collect hex_word (take l.i l.words)) l.initial.out l.out l.end
