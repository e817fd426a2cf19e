-- What is computed: the answer for a text, with its tokens as arrays. Assumes nothing.
use Rattle.std.specs.Prelude.{Result, Ok, Err, cond, List, [], ◌∷◌, map, ℕ, ltb, length}
use Rattle.lists.specs.Padded.{pad}
use Rattle.lexer.specs.Token.{Token}
use Rattle.lexer.specs.Cutting.{Cutting, tokens, refused}
use Rattle.lexer.specs.Cutter.{cutting}
use Rattle.lexer.specs.declared.Kind.{Kind}
use Rattle.lexer.specs.declared.LexError.{LexError}
use Rattle.lexer.specs.declared.Tokens.{Tokens}

-- the number of a kind; 0 to 5 are the binary signs
abbrev pub code_of : Kind → ℕ
code_of Kind.Implies = 0
code_of Kind.Iff = 1
code_of Kind.Or = 2
code_of Kind.And = 3
code_of Kind.Plus = 4
code_of Kind.Times = 5
code_of Kind.Minus = 6
code_of Kind.Not = 7
code_of Kind.Open = 8
code_of Kind.Close = 9
code_of Kind.IsZero = 10
code_of Kind.Comma = 11
code_of Kind.Truth = 12
code_of Kind.Falsity = 13
code_of Kind.Contact = 14
code_of Kind.Part = 15
code_of Kind.Zero = 16
code_of Kind.One = 17
code_of Kind.Name = 18

-- the tokens as arrays of 256 places; what is past the list is 0
unfoldable pub tokens_of : List Token → Tokens
tokens_of ts =
    record {
      kinds = pad 256 (map (λ (t : Token). code_of t.kind) ts);
      starts = pad 256 (map (λ (t : Token). t.start) ts);
      lens = pad 256 (map (λ (t : Token). t.len) ts);
      n = length ts;
    }

-- refusal 1: "no token and no foreign byte"
abbrev pub answer_of : List Token → Result Tokens LexError
answer_of [] = Err LexError.NoToken
answer_of (t ∷ ts) = Ok (tokens_of (t ∷ ts))

-- the answer for what was cut
abbrev pub lexed_of : Cutting → Result Tokens LexError
lexed_of (tokens ts) = answer_of ts
lexed_of (refused a) = Err a

-- refusal 2, "more than 256 bytes", comes before the others
unfoldable pub lexed : List ℕ → Result Tokens LexError
lexed s = cond (ltb 256 (length s)) (Err LexError.TooLong) (lexed_of (cutting s))
