-- What is meant: "Tokens are cut from the left, the longest match taken", as a relation between a text and its tokens or its first
-- refusal, with no algorithm. Assumes nothing.
use Rattle.std.specs.Prelude.{◌≡◌, true, false, ℕ, ◌+◌, ◌≤◌, ◌<◌, length, drop}
use mathlib.Core.List.{List, [], ◌∷◌, ◌++◌, Memᴰ}
use Rattle.lexer.specs.Class.{class_of}
use Rattle.lexer.specs.Token.{Token, token_of}
use Rattle.lexer.specs.Spelling.{Spelling, token, measured, signs, starts, run_kind}
use Rattle.lexer.specs.declared.Class.TheVariants as Class
use Rattle.lexer.specs.declared.Kind.{Kind}
use Rattle.lexer.specs.declared.LexError.{LexError}

-- the tokens of a text, or its first refusal
pub data Cutting : Type 0 where
  tokens : List Token → Cutting
  refused : LexError → Cutting

-- a token before what follows it; a later refusal refuses the whole text
abbrev pub with_token : Token → Cutting → Cutting
with_token t (tokens ts) = tokens (t ∷ ts)
with_token t (refused a) = refused a

abbrev pub Every : {A : Type 0} → (A → Type 0) → List A → Type 0
Every P [] = Unit {0}
Every P (x ∷ xs) = P x × Every P xs

-- a sign of the list, or none
pub data Match : Type 0 where
  nothing : Match
  match : Spelling → Match

-- "the longest match taken": the text starts with the sign, and with no longer one; or it starts with none
abbrev pub Longest : List Spelling → List ℕ → Match → Type 0
Longest xs s nothing = Every (λ (y : Spelling). starts y.bytes s ≡ false) xs
Longest xs s (match x) =
    Memᴰ x xs × (starts x.bytes s ≡ true) × Every (λ (y : Spelling). starts y.bytes s ≡ true → length y.bytes ≤ length x.bytes) xs

abbrev pub AllAlphanumeric : List ℕ → Type 0
AllAlphanumeric w = Every (λ (b : ℕ). class_of b ≡ Class.Alphanumeric) w

abbrev pub AllBlank : List ℕ → Type 0
AllBlank s = Every (λ (b : ℕ). class_of b ≡ Class.Blank) s

-- the text does not start with a letter or digit
abbrev pub NoAlphanumericFirst : List ℕ → Type 0
NoAlphanumericFirst [] = Unit {0}
NoAlphanumericFirst (b ∷ s) = class_of b ≡ Class.Alphanumeric → ⊥

-- "A run of letters and digits is one token": the text t is the run w, as long as it goes, and then s
pub record Run (w s t : List ℕ) : Type 0 where
  pub split : t ≡ w ++ s
  pub some : 1 ≤ length w
  pub all : AllAlphanumeric w
  pub ends : NoAlphanumericFirst s

-- the text t, that starts at place i, is cut as r
pub data Cut : ℕ → List ℕ → Cutting → Type 0 where
  end : {i : ℕ} → Cut i [] (tokens [])
  blank : {i b : ℕ} {s : List ℕ} {r : Cutting} → class_of b ≡ Class.Blank → Cut (i + 1) s r → Cut i (b ∷ s) r
  -- "A run of letters and digits is one token."
  run : {i : ℕ} {w s t : List ℕ} {r : Cutting} → Run w s t → length w ≤ 16 → Cut (i + length w) s r → Cut i t (with_token (token_of (run_kind w) i (length w)) r)
  -- refusal 4: "name over 16 bytes", "its first byte"
  long_name : {i : ℕ} {w s t : List ℕ} → Run w s t → 16 < length w → Cut i t (refused (LexError.LongName i))
  sign : {i b : ℕ} {s : List ℕ} {x : Spelling} {k : Kind} {r : Cutting} → class_of b ≡ Class.Sign → Longest signs (b ∷ s) (match x) → x.means ≡ token k
      → Cut (i + length x.bytes) (drop (length x.bytes) (b ∷ s)) r → Cut i (b ∷ s) (with_token (token_of k i (length x.bytes)) r)
  -- refusal 5: ""<=m"", "its first byte"
  measured_sign : {i b : ℕ} {s : List ℕ} {x : Spelling} → class_of b ≡ Class.Sign → Longest signs (b ∷ s) (match x) → x.means ≡ measured
      → Cut i (b ∷ s) (refused (LexError.Measured i))
  -- "A "<", "=" or ">" that opens no such sign is foreign there."
  no_sign : {i b : ℕ} {s : List ℕ} → class_of b ≡ Class.Sign → Longest signs (b ∷ s) nothing → Cut i (b ∷ s) (refused (LexError.ForeignByte i))
  -- refusal 3: "foreign byte", "its place"
  foreign : {i b : ℕ} {s : List ℕ} → class_of b ≡ Class.Foreign → Cut i (b ∷ s) (refused (LexError.ForeignByte i))
