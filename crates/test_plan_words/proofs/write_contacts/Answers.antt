-- `test_plan_words::write_contacts` is safe: 1,024 words are a square. Assumes nothing.
use mathlib.Core.Logic.{inr}
use borrow.Author.Rules.{rules}
use Rattle.test_plan_words.proofs.write_contacts.Goals as goal

pub row_at-requires : goal.row_at-requires
row_at-requires g c = inr (search rules)
