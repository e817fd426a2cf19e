-- `solver::unrefuted` meets its contract: of all rows none is left out, and else those that some rule refutes are. Assumes nothing.
use mathlib.Core.Bool.{true, not, and-true}
use mathlib.Core.Path.{◌≡◌, sym, ap, ◌∙◌}
use native.Mathlib.Omega.{arith}
use Rattle.lists.proofs.Truth.{clash}
use Rattle.evalset.specs.Bit.{bit}
use Rattle.evalset.specs.Sets.{below_in}
use Rattle.evalset.proofs.Bits.{bit_minus}
use Rattle.kleene.specs.Rails.{word_rows}
use Rattle.solver.proofs.Blocks.{rows_are, rails_are, unrefuted_rows}
use Rattle.solver.proofs.unrefuted.Goals as goal

pub returns-then-d-eq0 : goal.returns-then-d-eq0
returns-then-d-eq0 c =
    let d = c.args.d in
    let all : bit c.word_below.result ≡ below_in word_rows d = c.word_below.ensures ∙ ap (below_in word_rows) (sym c.if-d-eq0.true) in
    let rows = rows_are d _ c.word_below.result (λ e. true) (omega arith) all (λ e. sym (and-true _)) in
    record { low = rows.low; refuted = λ many rules h e l f. clash (rows.are e l) f }

pub returns : goal.returns
returns c =
    let few = c.requires.1.1 in
    let out = c.some_refuted-out in
    let rails = rails_are _ _ _ few _ _ c.yes_leaves-yes.ensures c.no_leaves-no.ensures in
    unrefuted_rows _ _ _ _ _ _ _ few rails out.result out.ensures _
    (rows_are _ _ _ (λ e. not (bit out.result e)) few c.word_below-2.ensures
    (λ e. bit_minus word_rows c.word_below-2.result out.result e (omega arith) (omega arith)))
