-- What is meant: a token. Assumes nothing.
use Rattle.std.specs.Prelude.{List, ℕ, take, drop}
use Rattle.lexer.specs.declared.Kind.{Kind}

-- its kind, the place of its first byte and its length in bytes
pub record Token : Type 0 where
  pub kind : Kind
  pub start : ℕ
  pub len : ℕ

abbrev pub token_of : Kind → ℕ → ℕ → Token
token_of k i n = record { kind = k; start = i; len = n }

-- the bytes of a token in its text
abbrev pub bytes_of : List ℕ → Token → List ℕ
bytes_of text t = take t.len (drop t.start text)
