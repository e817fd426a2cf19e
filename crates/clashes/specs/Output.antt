-- What is computed: which lines a sheet gets; proofs/Claims.antt ties it to what is meant (Printed). Assumes nothing.
use Rattle.std.specs.Prelude.{List, [], ◌∷◌, ℕ}
use Rattle.formula.specs.Formula.{Formula, Name}
use Rattle.lexer.specs.Text.{bytes}
use Rattle.contact.specs.Question.{plain}
use Rattle.contact.specs.Row.{Row}
use Rattle.contact.specs.Check.{first_row_of}
use Rattle.clashing.specs.Clashing.{clash_of}
use Rattle.table.specs.Sheet.{Text, lines_of}
use Rattle.report.specs.Lines.{ended}
use Rattle.report.specs.Output.{sheet_text}
use Rattle.clashes.specs.Printed.{numbers_from, clash_lines}

-- by the row that the search finds: a plan exists, or these rules clash
abbrev pub rows_text : List Row → List ℕ → List ℕ
rows_text [] text = text
rows_text (row ∷ rows) text = ended (bytes "PLAN EXISTS")

-- of rules, by the numbers of their lines
unfoldable pub rules_clash : List ℕ → List (Formula Name) → List ℕ
rules_clash ns rules = rows_text (first_row_of plain rules) (clash_lines ns rules (clash_of rules))

-- of a sheet
abbrev pub clash_text : Text → List ℕ
clash_text file = sheet_text (rules_clash (numbers_from 1 (lines_of file))) file
