-- What is computed: the cutter, from the left, one byte after the other. Assumes nothing.
use Rattle.std.specs.Prelude.{Bool, true, false, cond, List, [], ◌∷◌, ℕ, suc, ◌+◌, ◌-◌, ltb, length, take}
use Rattle.lexer.specs.Class.{class_of}
use Rattle.lexer.specs.Token.{token_of}
use Rattle.lexer.specs.Spelling.{Meaning, token, measured, Spelling, signs, starts, run_kind}
use Rattle.lexer.specs.Cutting.{Cutting, tokens, refused, with_token, Match, nothing, match}
use Rattle.lexer.specs.declared.Class.{Class}
use Rattle.lexer.specs.declared.Piece.{Piece}
use Rattle.lexer.specs.declared.LexError.TheVariants as LexError

-- ---- signs

abbrev pub longer : Spelling → Match → Match
longer x nothing = match x
longer x (match y) = cond (ltb (length x.bytes) (length y.bytes)) (match y) (match x)

-- the longest of the spellings with which the text starts
unfoldable pub longest : List Spelling → List ℕ → Match
longest [] s = nothing
longest (x ∷ xs) s = cond (starts x.bytes s) (longer x (longest xs s)) (longest xs s)

abbrev pub meaning_piece : Meaning → ℕ → Piece
meaning_piece (token k) n = Piece.Token k n
meaning_piece measured n = Piece.Measured

abbrev pub match_piece : Match → Piece
match_piece nothing = Piece.Foreign
match_piece (match x) = meaning_piece x.means (length x.bytes)

-- the sign that stands first
unfoldable pub sign_piece : List ℕ → Piece
sign_piece s = match_piece (longest signs s)

-- ---- runs of letters and digits

abbrev pub in_run : Class → Bool
in_run Class.Blank = false
in_run Class.Alphanumeric = true
in_run Class.Sign = false
in_run Class.Foreign = false

-- how long the run is with which the text starts, 0 for none
unfoldable pub run_length : List ℕ → ℕ
run_length [] = 0
run_length (b ∷ s) = cond (in_run (class_of b)) (suc (run_length s)) 0

-- the run that stands first; over 16 bytes it is refusal 4
unfoldable pub run_piece : List ℕ → Piece
run_piece s = cond (ltb 16 (run_length s)) Piece.LongName (Piece.Token (run_kind (take (run_length s) s)) (run_length s))

-- ---- the text

abbrev pub by_class : Class → List ℕ → Piece
by_class Class.Blank s = Piece.Blank
by_class Class.Alphanumeric s = run_piece s
by_class Class.Sign s = sign_piece s
by_class Class.Foreign s = Piece.Foreign

-- what stands first in a text
unfoldable pub piece_of : List ℕ → Piece
piece_of [] = Piece.Blank
piece_of (b ∷ s) = by_class (class_of b) (b ∷ s)

-- how many bytes a piece has after its first
abbrev pub more : Piece → ℕ
more Piece.Blank = 0
more (Piece.Token k n) = n - 1
more Piece.Foreign = 0
more Piece.LongName = 0
more Piece.Measured = 0

-- a piece at place i, where what stands after it is cut as r
abbrev pub put : Piece → ℕ → Cutting → Cutting
put Piece.Blank i r = r
put (Piece.Token k n) i r = with_token (token_of k i n) r
put Piece.Foreign i r = refused (LexError.ForeignByte i)
put Piece.LongName i r = refused (LexError.LongName i)
put Piece.Measured i r = refused (LexError.Measured i)

-- the text from place i on, whose first k bytes belong to the token before it
unfoldable pub cut_from : ℕ → ℕ → List ℕ → Cutting
cut_from i k [] = tokens []
cut_from i (suc k) (b ∷ s) = cut_from (i + 1) k s
cut_from i ℕ.zero (b ∷ s) = let r = cut_from (i + 1) (more (piece_of (b ∷ s))) s in put (piece_of (b ∷ s)) i r

-- "Tokens are cut from the left, the longest match taken"
abbrev pub cutting : List ℕ → Cutting
cutting s = cut_from 0 0 s
