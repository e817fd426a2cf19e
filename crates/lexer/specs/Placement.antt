-- For proofs: where the tokens of a text lie. Assumes nothing.
use Rattle.std.specs.Prelude.{◌≡◌, List, [], ◌∷◌, ℕ, ◌+◌, ◌≤◌, length}
use Rattle.lexer.specs.Token.{Token, bytes_of}
use Rattle.lexer.specs.Cutting.{AllAlphanumeric}
use Rattle.lexer.specs.declared.Kind.TheVariants as Kind

-- a token of 1 to 16 bytes that lies in the text, at place i or later; a name has letters and digits only
pub record TokenIn (text : List ℕ) (i : ℕ) (t : Token) : Type 0 where
  pub after : i ≤ t.start
  pub some : 1 ≤ t.len
  pub short : t.len ≤ 16
  pub inside : t.start + t.len ≤ length text
  pub name : t.kind ≡ Kind.Name → AllAlphanumeric (bytes_of text t)

-- the tokens lie in the text from place i on, each where the one before it ends or later
abbrev pub Placed : List ℕ → ℕ → List Token → Type 0
Placed text i [] = Unit {0}
Placed text i (t ∷ ts) = TokenIn text i t × Placed text (t.start + t.len) ts
