-- What is meant: the class of a byte. Assumes nothing.
use Rattle.std.specs.Prelude.{Bool, ◌&&◌, ◌||◌, cond, ℕ, leb, eqb}
use Rattle.lists.specs.Search.{elem}
use Rattle.lexer.specs.Text.{bytes}
use Rattle.lexer.specs.declared.Class.{Class}

-- b is from a to z
abbrev pub within : ℕ → ℕ → ℕ → Bool
within a z b = leb a b && leb b z

-- "blank (space 32, tab 9)", and by T-01 of document 02: "Byte 13 becomes a blank, in a rule added alone and in a sheet."
unfoldable pub is_blank : ℕ → Bool
is_blank b =
    eqb b 32
    || (eqb b 9
    || eqb b 13)

-- "letter or digit (A-Z, a-z, 0-9)"
unfoldable pub is_alphanumeric : ℕ → Bool
is_alphanumeric b =
    within 65 90 b
    || (within 97 122 b
    || within 48 57 b)

-- "The signs are ( ) , * + - & | ~ < = >."
unfoldable pub is_sign : ℕ → Bool
is_sign b = elem b (bytes "(),*+-&|~<=>")

-- "Each of the 256 byte values has one class: blank (space 32, tab 9), letter or digit (A-Z, a-z, 0-9), a sign, or foreign."
unfoldable pub class_of : ℕ → Class
class_of b = cond (is_blank b) Class.Blank (cond (is_alphanumeric b) Class.Alphanumeric (cond (is_sign b) Class.Sign Class.Foreign))
