-- `test_plan_words::put_again` is safe: 1,024 words are a square. Assumes nothing.
use mathlib.Core.Logic.{inr}
use Rattle.test_plan_words.proofs.put_again.Goals as goal

pub write_plan-requires : goal.write_plan-requires
write_plan-requires c = inr c.apart_in-apart.ensures
