-- `report::report` meets its contract: the text is short, or its lines have room in one piece (Pieces.antt). Assumes nothing.
use native.Mathlib.Omega.{arith}
use Rattle.report.proofs.Pieces.{answered_text}
use Rattle.report.proofs.Lent.{told_whole}
use Rattle.report.proofs.report.Goals as goal

pub returns-in-Text : goal.returns-in-Text
returns-in-Text c = answered_text _ c.put_report-told.ensures.answers _ c.in-Text.is

pub returns-in-Lines : goal.returns-in-Lines
returns-in-Lines c = told_whole c.put_report-told.ensures (omega arith) c.in-Lines.is c.put_piece.ensures
