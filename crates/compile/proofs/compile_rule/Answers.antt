-- `compile::compile_rule` meets its contract: the words are enough for the order's sets. Assumes nothing.
use borrow.Author.Rules.{rules}
use Rattle.compile.specs.Stack.{sets_in}
use Rattle.compile.proofs.compile_rule.Goals as goal

pub order_passed-requires : goal.order_passed-requires
unfolding sets_in
order_passed-requires c = search rules

pub order_passed-requires-2 : goal.order_passed-requires-2
unfolding sets_in
order_passed-requires-2 c = search rules
