-- `report::put_lines` meets its contract: so far the lines of the rules before place i are put (AsRead.antt). Assumes nothing.
use mathlib.Core.Path.{ap}
use mathlib.Core.List.{List}
use native.Mathlib.Omega.{arith}
use lib.Seq.{take_all}
use Rattle.lists.proofs.Putting.{puts_none, puts_text, puts_length, puts_more, fits_next}
use Rattle.table.specs.Sheet.{Text}
use Rattle.table.specs.Store.{rules_of}
use Rattle.table.specs.Calls.{formulas_of}
use Rattle.report.specs.Lines.{rule_lines}
use Rattle.report.proofs.AsRead.{lines_next, lines_few}
use Rattle.report.proofs.put_lines.Goals as goal

pub loop-i-init : goal.loop-i-init
unfolding rule_lines
loop-i-init c = puts_none 0 _ (omega arith)

pub put_line-end-requires : goal.put_line-end-requires
put_line-end-requires c =
    let k = c.loop-i in
    (c.requires.0, omega arith, fits_next k.invariant 257 (omega (arith, c.requires.1, lines_few (rules_of c.args.table) c.requires.0.standing k.i)))

pub loop-i-preserved : goal.loop-i-preserved
loop-i-preserved c =
    let k = c.loop-i in
    puts_text (lines_next (rules_of c.args.table) k.i) (puts_more k.invariant c.put_line-end.ensures)

pub shape_of-out : goal.shape_of-out
shape_of-out c = puts_length c.loop-i.invariant

pub returns : goal.returns
returns c =
    let k = c.loop-i in
    puts_text (ap (λ (l : List Text). rule_lines (formulas_of l)) (take_all k.i (rules_of c.args.table) (omega (arith, c.requires.0.standing.few)))) k.invariant
