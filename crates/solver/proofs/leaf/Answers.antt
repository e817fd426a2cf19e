-- `solver::leaf` meets its contract: an atom of the row has its value there, and one of the block the opposite of its bit.
-- Assumes nothing.
use mathlib.Core.Path.{sym, ap, ◌∙◌}
use Rattle.contact.specs.Row.{is}
use Rattle.kleene.specs.Rails.{duo_of}
use Rattle.solver.proofs.Blocks.{value_first, value_second, in_word}
use Rattle.solver.proofs.leaf.Goals as goal

pub returns-then-i-k : goal.returns-then-i-k
returns-then-i-k c = λ e l.
    let a = c.args in
    ap duo_of (ap is (c.row_leaf.ensures e (in_word a.d e c.requires.1 l)) ∙ sym (value_first a.k a.d a.row e a.i c.if-i-k.true))

pub returns-else-i-k : goal.returns-else-i-k
returns-else-i-k c = λ e l.
    let a = c.args in
    ap duo_of
    (ap is (c.word_leaf.ensures e (in_word a.d e c.requires.1 l))
    ∙ sym (value_second a.k a.d a.row e a.i c.if-i-k.false c.requires.2))
