-- `solver::row_leaf` meets its contract: every bit, or none.
-- Assumes nothing.
use mathlib.Core.Path.{sym, ◌∙◌}
use borrow.Author.Tests.{lt-ltb}
use Rattle.evalset.proofs.Bits.{bit_none, bit_ones}
use Rattle.kleene.specs.Rails.{word_rows}
use Rattle.solver.proofs.row_leaf.Goals as goal

pub returns-then-value_in : goal.returns-then-value_in
returns-then-value_in c = λ e l. bit_ones word_rows e ∙ lt-ltb e word_rows l ∙ sym c.if-value_in.true ∙ c.value_in.ensures

pub returns-else-value_in : goal.returns-else-value_in
returns-else-value_in c = λ e l. bit_none e ∙ sym c.if-value_in.false ∙ c.value_in.ensures
