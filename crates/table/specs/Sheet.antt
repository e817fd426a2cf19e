-- What is meant: the lines of a sheet, which is load's file, and those of them that are not blank. Assumes nothing.
use Rattle.std.specs.Prelude.{ℕ, List, [], ◌∷◌, Bool, true, false, cond, not, eqb}
use Rattle.lexer.specs.Class.{class_of}
use Rattle.lexer.specs.declared.Class.{Class}
use Rattle.lists.specs.Search.{all, keep}

-- a text is its bytes
abbrev pub Text : Type 0
Text = List ℕ

-- "Load splits at byte 10"
unfoldable pub on_first : ℕ → List Text → List Text
on_first b [] = (b ∷ []) ∷ []
on_first b (l ∷ ls) = (b ∷ l) ∷ ls

unfoldable pub lines_of : Text → List Text
lines_of [] = [] ∷ []
lines_of (b ∷ s) = cond (eqb b 10) ([] ∷ lines_of s) (on_first b (lines_of s))

-- the class is that of blanks
abbrev pub blank_class : Class → Bool
blank_class Class.Blank = true
blank_class Class.Alphanumeric = false
blank_class Class.Sign = false
blank_class Class.Foreign = false

unfoldable pub blank_byte : ℕ → Bool
blank_byte b = blank_class (class_of b)

-- a line is blank if the class of each byte is: "a blank line may be of any length"
unfoldable pub blank_line : Text → Bool
blank_line s = all blank_byte s

-- "its lines that are not blank"
unfoldable pub filled : List Text → List Text
filled ls = keep (λ l. not (blank_line l)) ls
