-- What is meant: the line of a string of tokens. Assumes nothing.
use Rattle.std.specs.Prelude.{List, [], ◌∷◌, ◌++◌, ℕ}
use Rattle.lexer.specs.Text.{byte}
use Rattle.exercises.specs.Tokens.{spelling}

-- "tokens parted by one blank"
abbrev pub parted : List ℕ → List ℕ
parted [] = []
parted (k ∷ []) = spelling k
parted (k ∷ j ∷ ks) = spelling k ++ byte " " ∷ parted (j ∷ ks)

-- it ends with byte 10, as every line that a program prints
abbrev pub line : List ℕ → List ℕ
line ks = parted ks ++ 10 ∷ []
