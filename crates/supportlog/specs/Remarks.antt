-- What is meant: the remark on a refused line of a log, which logrun writes to standard error: the line as it came, a caret under the place, and
-- one sentence in plain words (remarks/specs/Remark.antt). What the line is answered is computed by Run; proofs/Claims.antt ties that to what is
-- meant. Assumes nothing.
use Rattle.std.specs.Prelude.{cond, List, [], ◌∷◌, ℕ, ◌+◌, ltb, length, drop}
use Rattle.lexer.specs.Text.{bytes}
use Rattle.table.specs.Sheet.{Text}
use Rattle.remarks.specs.Remark.{sentence, two_lines}
use Rattle.supportlog.specs.declared.Form.{Form}
use Rattle.supportlog.specs.declared.LineAnswer.{LineAnswer}
use Rattle.supportlog.specs.Lines.{split_log, without_return}
use Rattle.supportlog.specs.Answers.{room}
use Rattle.supportlog.specs.Run.{form_of, answer_by}

-- the place in the line: "places counted from the byte after "+""; a withdrawal's number stands behind "-"
abbrev pub caret_at : Form → ℕ → ℕ
caret_at Form.Add carried = carried + 1
caret_at (Form.Withdraw k) carried = 1
caret_at Form.Ask carried = 0
caret_at Form.Other carried = 0

-- a line of this form that is answered so; one that is not refused gets no remark
abbrev pub answer_remark : ℕ → Text → Form → LineAnswer → List ℕ
answer_remark number line form LineAnswer.Added = []
answer_remark number line form LineAnswer.Withdrawn = []
answer_remark number line form (LineAnswer.Plan n) = []
answer_remark number line form LineAnswer.NoPlan = []
answer_remark number line form (LineAnswer.Refused refusal carried) =
    two_lines number line (caret_at form carried) refusal (sentence refusal (drop 1 (without_return line)) carried)

-- a line, as it came, where the texts rs stand
unfoldable pub line_remark : List Text → ℕ → Text → List ℕ
line_remark rs number line =
    answer_remark number line (form_of (without_return line)) (answer_by (form_of (without_return line)) rs (without_return line) room)

-- the next of a log's lines; of a log of too many bytes no line is run
abbrev pub next_remark : ℕ → List Text → ℕ → List Text → List ℕ
next_remark size rs number [] = []
next_remark size rs number (line ∷ lines) =
    cond (ltb 8192 size) (bytes "this log has more than 8,192 bytes: none of it was run (refusal 15)\n") (line_remark rs number line)

-- the line at a place of a log, with its number, where the texts rs stand
unfoldable pub remark_at : Text → List Text → ℕ → ℕ → List ℕ
remark_at log rs from number = next_remark (length log) rs number (split_log (drop from log))
