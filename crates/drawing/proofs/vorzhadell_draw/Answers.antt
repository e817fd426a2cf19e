-- `drawing::vorzhadell_draw` meets its contract: the sheet is loaded or refused, and each has its number and its bytes. Assumes nothing.
use borrow.Enum.Refused.{opened}
use mathlib.Core.Path.{◌∙◌}
use Rattle.report.proofs.Reporting.{told_not_loaded, loaded_some}
use Rattle.drawing.proofs.Drawing.{answer_fits, sheet_refused, sheet_loaded}
use Rattle.drawing.proofs.vorzhadell_draw.Goals as goal

pub refused-requires : goal.refused-requires
refused-requires c = answer_fits _ _ _ c.load-loaded.ensures

pub returns-in_default : goal.returns-in_default
returns-in_default c = sheet_refused _ _ _ c.load-loaded.ensures _ _ (told_not_loaded _ (opened c.in_default.in_default-own.keys2)) c.refused.ensures

pub draw_rules-requires : goal.draw_rules-requires
draw_rules-requires c =
    let load = c.load-loaded.ensures in
    (load.from_us, loaded_some _ _ _ load c.in-Loaded.is)

pub returns : goal.returns
returns c = c.draw_rules.ensures ∙ sheet_loaded _ _ _ c.load-loaded.ensures _ c.in-Loaded.is
