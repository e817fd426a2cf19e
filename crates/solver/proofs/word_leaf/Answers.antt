-- `solver::word_leaf` meets its contract: the bits that are not in the mask.
-- Assumes nothing.
use mathlib.Core.Bool.{Bool, not, ◌&&◌}
use mathlib.Core.Path.{ap, ◌∙◌}
use mathlib.Mathlib.Logic.Function.Defs.{congr_fun}
use native.Mathlib.Omega.{arith}
use borrow.Author.Tests.{lt-ltb}
use Rattle.evalset.specs.Bit.{bit}
use Rattle.evalset.proofs.Bits.{bit_not}
use Rattle.kleene.specs.Rails.{word_rows}
use Rattle.solver.proofs.word_leaf.Goals as goal

pub returns : goal.returns
returns c = λ e l.
    let j = c.args.j in
    bit_not word_rows c.word_mask.result e (omega arith) l
    ∙ ap not (congr_fun c.word_mask.ensures e ∙ ap (λ (t : Bool). t && bit e j) (lt-ltb e word_rows l))
