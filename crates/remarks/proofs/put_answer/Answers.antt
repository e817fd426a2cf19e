-- `remarks::put_answer` meets its contract: each arm knows the answer. Assumes nothing.
use mathlib.Core.Path.{sym, ap}
use native.Mathlib.Omega.{arith}
use Rattle.lists.proofs.Putting.{puts_none, puts_text}
use Rattle.remarks.specs.Remark.{remark_of}
use Rattle.remarks.proofs.put_answer.Goals as goal

pub returns-in-Loaded : goal.returns-in-Loaded
unfolding remark_of
returns-in-Loaded c = let a = c.args in puts_text (ap (remark_of a.sheet.now) (sym c.in-Loaded.is)) (puts_none 0 a.out.now (omega arith))

pub returns-in-FileTooLong : goal.returns-in-FileTooLong
unfolding remark_of
returns-in-FileTooLong c = puts_text (ap (remark_of c.args.sheet.now) (sym c.in-FileTooLong.is)) c.put_text.ensures

pub returns-in-AllBlank : goal.returns-in-AllBlank
unfolding remark_of
returns-in-AllBlank c = puts_text (ap (remark_of c.args.sheet.now) (sym c.in-AllBlank.is)) c.put_text-in-AllBlank.ensures

pub returns-in-Line : goal.returns-in-Line
unfolding remark_of
returns-in-Line c = puts_text (ap (remark_of c.args.sheet.now) (sym c.in-Line.is)) c.put_line.ensures
