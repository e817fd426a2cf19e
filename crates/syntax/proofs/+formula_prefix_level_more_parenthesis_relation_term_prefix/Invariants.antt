-- What is left to read decreases with each call of the readers that call each other, and with each sign that `more` reads; what is said
-- of the value that it has then is said of the first one. Assumes nothing.
use Rattle.syntax.specs.Reader.{value_of}
use Rattle.syntax.proofs.Readers.{left, left_at, MoreHeld}
use Rattle.syntax.proofs.+formula_prefix_level_more_parenthesis_relation_term_prefix.Given as goal

abbrev pub decreases-formula_prefix : goal.decreases-formula_prefix
decreases-formula_prefix l = left l.kinds.now l.at 7

abbrev pub decreases-level : goal.decreases-level
decreases-level l = left_at l.kinds.now l.at l.k

abbrev pub decreases-more : goal.decreases-more
decreases-more l = left l.kinds.now l.v.at 18

abbrev pub decreases-parenthesis : goal.decreases-parenthesis
decreases-parenthesis l = left l.kinds.now l.at 15

abbrev pub decreases-relation : goal.decreases-relation
decreases-relation l = left l.kinds.now l.at 0

abbrev pub decreases-term_prefix : goal.decreases-term_prefix
decreases-term_prefix l = left l.kinds.now l.at 1

abbrev pub invariant-more-loop-b : goal.invariant-more-loop-b
invariant-more-loop-b l = MoreHeld l.kinds l.k (value_of l.initial.v) l.initial.order (value_of l.v) l.order

abbrev pub decreases-more-loop-b : goal.decreases-more-loop-b
decreases-more-loop-b l = left l.kinds l.v.at 18
