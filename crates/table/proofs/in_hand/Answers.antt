-- `table::in_hand` meets its contract: the words are drawn for the compiled rules, or else the search's first row is the answer. Assumes
-- nothing.
use mathlib.Core.Path.{subst}
use Rattle.table.specs.Still.{DrawnIs}
use Rattle.table.proofs.Still.{hand_drawn, hand_found}
use Rattle.table.proofs.in_hand.Goals as goal

pub returns-then-drawn : goal.returns-then-drawn
returns-then-drawn c = hand_drawn _ _ _ (subst (DrawnIs _ _ _) c.if-drawn.true c.drawn.ensures)

pub returns : goal.returns
returns c =
    hand_found _ _ _ (subst (DrawnIs _ _ _) c.if-drawn.false c.drawn.ensures) _ c.row_of-found.ensures _
    c.found_still.ensures
