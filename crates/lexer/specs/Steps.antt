-- For proofs: what the private functions compute, step by step: the sign by its first three bytes, and the arrays filled token by token.
-- Assumes nothing.
use Rattle.std.specs.Prelude.{Result, Ok, Err, cond, List, [], ◌∷◌, ℕ, ◌+◌, eqb, set}
use Rattle.lexer.specs.Text.{byte}
use Rattle.lexer.specs.Token.{Token}
use Rattle.lexer.specs.Cutting.{Cutting, tokens, refused}
use Rattle.lexer.specs.Arrays.{code_of}
use Rattle.lexer.specs.declared.Kind.{Kind}
use Rattle.lexer.specs.declared.Piece.{Piece}
use Rattle.lexer.specs.declared.LexError.{LexError}
use Rattle.lexer.specs.declared.Tokens.{Tokens}

-- ---- the sign that opens with a byte a, where b and c stand after it

abbrev pub minus_sign : ℕ → Piece
minus_sign b = cond (eqb b (byte ">")) (Piece.Token Kind.Implies 2) (Piece.Token Kind.Minus 1)

abbrev pub less_sign : ℕ → ℕ → Piece
less_sign b c =
    cond (eqb b (byte "=")) (cond (eqb c (byte "m")) Piece.Measured (Piece.Token Kind.Part 2))
    (cond (eqb b (byte "-")) (cond (eqb c (byte ">")) (Piece.Token Kind.Iff 3) Piece.Foreign) Piece.Foreign)

abbrev pub equals_sign : ℕ → ℕ → Piece
equals_sign b c =
    cond (eqb b (byte "0")) (Piece.Token Kind.IsZero 2)
    (cond (eqb b (byte " ")) (cond (eqb c (byte "0")) (Piece.Token Kind.IsZero 3) Piece.Foreign) Piece.Foreign)

unfoldable pub sign_of : ℕ → ℕ → ℕ → Piece
sign_of a b c =
    cond (eqb a (byte "(")) (Piece.Token Kind.Open 1)
    (cond (eqb a (byte ")")) (Piece.Token Kind.Close 1)
    (cond (eqb a (byte ",")) (Piece.Token Kind.Comma 1)
    (cond (eqb a (byte "*")) (Piece.Token Kind.Times 1)
    (cond (eqb a (byte "+")) (Piece.Token Kind.Plus 1)
    (cond (eqb a (byte "&")) (Piece.Token Kind.And 1)
    (cond (eqb a (byte "|")) (Piece.Token Kind.Or 1)
    (cond (eqb a (byte "~")) (Piece.Token Kind.Not 1)
    (cond (eqb a (byte "-")) (minus_sign b)
    (cond (eqb a (byte "<")) (less_sign b c)
    (cond (eqb a (byte "=")) (equals_sign b c) Piece.Foreign))))))))))

-- ---- the arrays

abbrev pub arrays : List ℕ → List ℕ → List ℕ → ℕ → Tokens
arrays kinds starts lens n = record { kinds = kinds; starts = starts; lens = lens; n = n }

-- one token more
unfoldable pub push : Tokens → Kind → ℕ → ℕ → Tokens
push t k i n = arrays (set t.kinds t.n (code_of k)) (set t.starts t.n i) (set t.lens t.n n) (t.n + 1)

-- the tokens put behind those that are there
unfoldable pub fill : Tokens → List Token → Tokens
fill t [] = t
fill t (x ∷ xs) = fill (push t x.kind x.start x.len) xs

unfoldable pub finish : Tokens → Result Tokens LexError
finish t = cond (eqb t.n 0) (Err LexError.NoToken) (Ok t)

-- the answer where t is filled already and the rest of the text is cut as r
unfoldable pub resume : Tokens → Cutting → Result Tokens LexError
resume t (tokens ts) = finish (fill t ts)
resume t (refused a) = Err a
