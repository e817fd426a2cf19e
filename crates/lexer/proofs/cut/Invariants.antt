-- `lexer::cut` meets its contract: the tokens that are in the arrays and the cutting of the rest of the text give the answer for the
-- whole text (the invariant); what is left of the text falls. Assumes nothing.
use mathlib.Core.List.{[]}
use mathlib.Core.Path.{◌≡◌}
use Prim.Native.Nat.{◌-◌, ◌≤◌}
use lib.ListN.{length, drop}
use Rattle.lexer.specs.Cutter.{cut_from, cutting}
use Rattle.lexer.specs.Arrays.{tokens_of}
use Rattle.lexer.specs.Steps.{resume}
use Rattle.lexer.proofs.cut.Given as goal

abbrev pub invariant-loop-at : goal.invariant-loop-at
invariant-loop-at l =
    (l.at ≤ length l.text) × (l.tokens.n ≤ l.at) × (resume l.tokens (cut_from l.at 0 (drop l.at l.text)) ≡ resume (tokens_of []) (cutting l.text))

abbrev pub decreases-loop-at : goal.decreases-loop-at
decreases-loop-at l = length l.text - l.at
