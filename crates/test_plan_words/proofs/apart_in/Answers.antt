-- `test_plan_words::apart_in` is safe: 1,024 words are a square. Assumes nothing.
use mathlib.Core.Logic.{inr}
use mathlib.Core.Path.{◌∙◌}
use borrow.Author.Rules.{rules}
use Rattle.test_plan_words.proofs.apart_in.Goals as goal

pub row_at-row-requires : goal.row_at-row-requires
row_at-row-requires c = inr (search rules)

pub join_at-requires : goal.join_at-requires
join_at-requires c = inr c.loop-i.invariant

pub loop-i-preserved : goal.loop-i-preserved
loop-i-preserved c = c.join_at.ensures.long ∙ c.loop-i.invariant
