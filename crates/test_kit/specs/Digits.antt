-- What is computed: the hexadecimal digits of a word, in capitals. Assumes nothing.
use Rattle.std.specs.Prelude.{List, [], ◌∷◌, ◌++◌, ℕ, ◌/◌, ◌%◌, get_or}
use Rattle.lists.specs.Search.{from}

-- the byte of a digit below 16: `0` to `9`, then `A` to `F`
abbrev pub hex_digit : ℕ → ℕ
hex_digit d = get_or (from 48 10 ++ from 65 6) d 0

-- the eight digits of a word, the most significant first
abbrev pub word_digits : ℕ → List ℕ
word_digits w =
    hex_digit (w / 0x10000000 % 16) ∷ hex_digit (w / 0x1000000 % 16) ∷ hex_digit (w / 0x100000 % 16) ∷ hex_digit (w / 0x10000 % 16)
    ∷ hex_digit (w / 0x1000 % 16) ∷ hex_digit (w / 0x100 % 16) ∷ hex_digit (w / 0x10 % 16) ∷ hex_digit (w % 16) ∷ []
