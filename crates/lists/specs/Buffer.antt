-- What is meant: a list over the first places of a buffer that is lent. Assumes nothing.
use Rattle.std.specs.Prelude.{List, ◌++◌, ℕ, length, drop}

-- a list over the first words of a buffer; the others keep their values
unfoldable pub over : List ℕ → List ℕ → List ℕ
over ws buf = ws ++ drop (length ws) buf
