-- What is computed: the table as a function of the list of standing texts, and the list that a table holds.
-- "Each entry is the rule's text as it came." Assumes nothing.
use Rattle.std.specs.Prelude.{◌-◌, List, [], ◌++◌, map, length, take, replicate}
use Rattle.lists.specs.Padded.{pad}
use Rattle.table.specs.declared.Line.{Line}
use Rattle.table.specs.declared.Table.{Table}
use Rattle.table.specs.Sheet.{Text}

-- a text in a line, zeros after it
unfoldable pub kept_line : Text → Line
kept_line s = record { bytes = pad 256 s; len = length s }

-- the lines of the texts, empty ones after them: nothing else is held
-- "Nothing of a withdrawn rule stays in the table; later rules move down and the freed place is used again."
unfoldable pub table_of : List Text → Table
table_of rs = record { lines = map kept_line rs ++ replicate (16 - length rs) (kept_line []); count = length rs }

-- read back
unfoldable pub text_of : Line → Text
text_of l = take l.len l.bytes

unfoldable pub rules_of : Table → List Text
rules_of t = map text_of (take t.count t.lines)
