-- What is meant: the text of a formula in bytes. Assumes nothing.
use Rattle.std.specs.Prelude.{true, false, List, ℕ}
use Rattle.lists.specs.Search.{collect}
use Rattle.formula.specs.declared.Sign.TheVariants.{Implies, Iff, Or, And, Plus, Times}
use Rattle.formula.specs.Formula.{Formula, Name}
use Rattle.lexer.specs.Text.{bytes}
use Rattle.syntax.specs.Symbol.{Leaf, Symbol, leaf, minus, tilde, opening, closing, comma, is_zero, binary, constant, relation, contact, part}
use Rattle.printing.specs.Tokens.{formula_tokens}

-- a token as it is written; a name is its bytes
abbrev pub spelling : Symbol Name → List ℕ
spelling (leaf Leaf.zero) = bytes "0"
spelling (leaf Leaf.one) = bytes "1"
spelling (leaf (Leaf.name w)) = w
spelling minus = bytes "-"
spelling tilde = bytes "~"
spelling opening = bytes "("
spelling closing = bytes ")"
spelling comma = bytes ","
-- "It .. writes "=0""
spelling is_zero = bytes "=0"
spelling (binary Implies) = bytes "->"
spelling (binary Iff) = bytes "<->"
spelling (binary Or) = bytes "|"
spelling (binary And) = bytes "&"
spelling (binary Plus) = bytes "+"
spelling (binary Times) = bytes "*"
spelling (constant true) = bytes "T"
spelling (constant false) = bytes "F"
spelling (relation contact) = bytes "C"
spelling (relation part) = bytes "<="

-- "It uses no blanks": tokens one after the other, and nothing between them
unfoldable pub written : List (Symbol Name) → List ℕ
written xs = collect spelling xs

-- the text of a formula
unfoldable pub text_of : Formula Name → List ℕ
text_of f = written (formula_tokens f)
