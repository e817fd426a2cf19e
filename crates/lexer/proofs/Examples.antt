-- The examples of document 01 and cases at the edges of its rules, by computation: one claim. Assumes nothing.
use Rattle.std.specs.Prelude.{Err}
use mathlib.Core.Path.{◌≡◌, refl}
use mathlib.Core.List.{List, [], ◌∷◌, ◌++◌, map}
use Prim.Native.Nat.{ℕ}
use lib.ListN.{replicate}
use Rattle.lexer.specs.Text.{bytes}
use Rattle.lexer.specs.Class.{class_of, is_blank, is_alphanumeric, is_sign}
use Rattle.lexer.specs.Token.{Token, token_of}
use Rattle.lexer.specs.Spelling.{signs, starts, constant_kind}
use Rattle.lexer.specs.Cutting.{tokens}
use Rattle.lexer.specs.Cutter.{longest, sign_piece, run_length, run_piece, piece_of, cut_from, cutting}
use Rattle.lexer.specs.Arrays.{tokens_of, lexed}
use Rattle.lexer.specs.declared.Kind.TheVariants.{Or, Minus, Implies, Iff, IsZero, Truth, Falsity, Contact, Part, Zero, One, Name}
use Rattle.lexer.specs.declared.LexError.{LexError}
use Rattle.lexer.specs.declared.LexError.TheVariants.{TooLong, NoToken, ForeignByte, LongName, Measured}

-- a text that is cut, with its tokens
pub record Cuts : Type 0 where
  pub text : List ℕ
  pub gives : List Token

-- a text that is refused, and why
pub record Refuses : Type 0 where
  pub text : List ℕ
  pub why : LexError

abbrev cuts : List ℕ → List Token → Cuts
cuts s ts = record { text = s; gives = ts }

abbrev refuses : List ℕ → LexError → Refuses
refuses s a = record { text = s; why = a }

abbrev pub cut_texts : List Cuts
cut_texts =
    cuts (bytes "a=01") (token_of Name 0 1 ∷ token_of IsZero 1 2 ∷ token_of One 3 1 ∷ [])
    ∷ cuts (bytes "a= 00") (token_of Name 0 1 ∷ token_of IsZero 1 3 ∷ token_of Zero 4 1 ∷ [])
    ∷ cuts (bytes "01|Ta") (token_of Name 0 2 ∷ token_of Or 2 1 ∷ token_of Name 3 2 ∷ [])
    ∷ cuts (bytes "<= m") (token_of Part 0 2 ∷ token_of Name 3 1 ∷ [])
    ∷ cuts (bytes "<=M") (token_of Part 0 2 ∷ token_of Name 2 1 ∷ [])
    ∷ cuts (bytes "T-->T") (token_of Truth 0 1 ∷ token_of Minus 1 1 ∷ token_of Implies 2 2 ∷ token_of Truth 4 1 ∷ [])
    ∷ cuts (bytes "F<->C") (token_of Falsity 0 1 ∷ token_of Iff 1 3 ∷ token_of Contact 4 1 ∷ [])
    ∷ cuts (bytes "0123456789abcdef") (token_of Name 0 16 ∷ [])
    -- T-01: byte 13 is a blank, and parts runs
    ∷ cuts (bytes "a\rb=0\r") (token_of Name 0 1 ∷ token_of Name 2 1 ∷ token_of IsZero 3 2 ∷ [])
    ∷ []

abbrev pub refused_texts : List Refuses
refused_texts =
    refuses (bytes "a<=m b") (Measured 1)
    ∷ refuses (bytes "<=max(a,b)") (Measured 0)
    ∷ refuses (bytes "a=" ++ replicate 20 48) (LongName 3)
    ∷ refuses (replicate 17 84) (LongName 0)
    ∷ refuses (bytes "a=  0") (ForeignByte 1)
    ∷ refuses (bytes "a=\t0") (ForeignByte 1)
    ∷ refuses (bytes "a=\r0") (ForeignByte 1)
    ∷ refuses (bytes "\r") NoToken
    ∷ refuses (replicate 256 84 ++ bytes "\r") TooLong
    ∷ refuses (bytes "a<-b") (ForeignByte 1)
    ∷ refuses (bytes "T - > T") (ForeignByte 4)
    ∷ refuses (bytes "a\nb") (ForeignByte 1)
    ∷ refuses (97 ∷ 128 ∷ []) (ForeignByte 1)
    ∷ refuses (bytes "$ <=m") (ForeignByte 0)
    ∷ refuses (replicate 257 32) TooLong
    ∷ refuses (replicate 256 32) NoToken
    ∷ refuses [] NoToken
    ∷ []

pub examples : (map (λ (c : Cuts). cutting c.text) cut_texts ≡ map (λ (c : Cuts). tokens c.gives) cut_texts)
    × (map (λ (r : Refuses). lexed r.text) refused_texts ≡ map (λ (r : Refuses). Err r.why) refused_texts)
unfolding class_of is_blank is_alphanumeric is_sign signs starts constant_kind longest sign_piece run_length run_piece piece_of cut_from tokens_of lexed
examples = (refl, refl)
