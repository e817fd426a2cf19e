-- `drawing::draw_words` meets its contract: the first word has the points, and each of the three answers is the plan's. Assumes nothing.
use mathlib.Core.Path.{refl}
use native.Mathlib.Omega.{arith}
use borrow.Author.Rules.{rules}
use Rattle.report.proofs.Putting.{puts_over}
use Rattle.drawing.specs.Drawing.{DrawsWords}
use Rattle.drawing.proofs.Drawing.{drawn_many, drawn_short, drawn_given}
use Rattle.drawing.proofs.draw_words.Goals as goal

pub returns-then-points-gt-SHOWN : goal.returns-then-points-gt-SHOWN
unfolding DrawsWords
returns-then-points-gt-SHOWN c p few e =
    let a = c.args in
    drawn_many a.words.now a.buffer.now p few e _ refl _ (omega arith) (search rules)

pub returns-then-room-needed : goal.returns-then-room-needed
unfolding DrawsWords
returns-then-room-needed c p few e =
    let a = c.args in
    drawn_short a.words.now a.buffer.now p few e _ refl _ (omega arith) (omega arith) (search rules)

pub returns : goal.returns
unfolding DrawsWords
returns c p few e =
    let a = c.args in
    drawn_given a.words.now a.buffer.now p few e _ refl _ _ (omega arith) (omega arith) refl (puts_over _ _ _ _ c.put_words.ensures).bytes
