-- `drawing::refused` meets its contract: the number of a refusal on a line, and 0 for another outcome. Assumes nothing.
use borrow.Enum.Refused.{opened}
use mathlib.Core.Path.{sym, ap, ◌∙◌}
use native.Mathlib.Omega.{arith}
use Rattle.drawing.specs.Drawing.{outcome_number, Fits}
use Rattle.drawing.proofs.Drawing.{no_number}
use Rattle.drawing.proofs.refused.Goals as goal

pub returns-in_default : goal.returns-in_default
returns-in_default c = no_number c.load_outcome-said.result (opened c.in_default.in_default-own.keys2) ∙ ap outcome_number c.load_outcome-said.ensures

pub refusal-requires : goal.refusal-requires
unfolding Fits
refusal-requires c =
    let small = c.requires _ _ _ (sym c.load_outcome-said.ensures ∙ c.in-RefusedLine.is) in
    (omega (arith, small.number_at_most), small.line_at_most, omega (arith, small.place_at_most))

pub returns : goal.returns
returns c =
    c.refusal.ensures ∙ ap outcome_number (sym c.in-RefusedLine.is ∙ c.load_outcome-said.ensures)
