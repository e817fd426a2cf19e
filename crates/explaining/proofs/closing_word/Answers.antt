-- `explaining::closing_word` meets its contract: by the first rule that is false, and else by the node's bit. Assumes nothing.
use mathlib.Core.Path.{sym, ◌∙◌}
use native.Mathlib.Omega.{arith}
use Rattle.explaining.proofs.Closings.{word_rule, word_floor, word_none}
use Rattle.explaining.proofs.closing_word.Goals as goal

pub overflow_cast-result : goal.overflow_cast-result
overflow_cast-result c = omega (arith, c.in-Some.ensures.0, c.requires.0)

pub returns-in-Some : goal.returns-in-Some
returns-in-Some c = word_rule _ _ _ _ _ c.in-Some.ensures.1

pub returns-then-some_floor : goal.returns-then-some_floor
returns-then-some_floor c =
    word_none _ _ _ _ (sym c.in_default.is ∙ c.first_false.ensures.1)
    (sym c.some_floor.ensures ∙ c.if-some_floor.true)

pub returns-else-some_floor : goal.returns-else-some_floor
returns-else-some_floor c =
    word_floor _ _ _ _ (sym c.in_default.is ∙ c.first_false.ensures.1)
    (sym c.some_floor.ensures ∙ c.if-some_floor.false)
