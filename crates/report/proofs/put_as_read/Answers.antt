-- `report::put_as_read` meets its contract: the sheet is loaded or refused, and each has its text (Reporting.antt). Assumes nothing.
use borrow.Enum.Refused.{opened}
use Rattle.lists.proofs.Putting.{puts_text}
use Rattle.report.specs.Lines.{rule_lines}
use Rattle.report.proofs.Reporting.{told_not_loaded, refused_text, loaded_text}
use Rattle.report.proofs.put_as_read.Goals as goal

pub returns-in_default : goal.returns-in_default
returns-in_default c = puts_text (refused_text _ _ _ c.load-loaded.ensures rule_lines (told_not_loaded _ (opened c.in_default.in_default-own.keys2))) c.put_refusal.ensures

pub returns : goal.returns
returns c = puts_text (loaded_text _ _ _ c.load-loaded.ensures c.in-Loaded.is rule_lines) c.put_lines.ensures
