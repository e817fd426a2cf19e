-- What is meant: how signs and constants are spelled. Assumes nothing.
use Rattle.std.specs.Prelude.{Bool, true, false, ◌&&◌, cond, List, [], ◌∷◌, ℕ, eqb}
use Prim.Native.String.{String}
use Rattle.lexer.specs.Text.{bytes, byte}
use Rattle.lexer.specs.declared.Kind.{Kind}

-- a sign is a token, or the measured comparison "<=m", which is refused
pub data Meaning : Type 0 where
  token : Kind → Meaning
  measured : Meaning

-- a sign as it is written, and what it means
pub record Spelling : Type 0 where
  pub bytes : List ℕ
  pub means : Meaning

abbrev pub spelled : String → Meaning → Spelling
spelled w m = record { bytes = bytes w; means = m }

-- "The signs are ( ) , * + - & | ~ < = >." and "The longer signs are "<=", "<=m", "=0", "= 0" (at most one space, no tab), "->" and "<->"."
-- The bytes < = > alone are no sign: "A "<", "=" or ">" that opens no such sign is foreign there."
unfoldable pub signs : List Spelling
signs =
    spelled "(" (token Kind.Open)
    ∷ spelled ")" (token Kind.Close)
    ∷ spelled "," (token Kind.Comma)
    ∷ spelled "*" (token Kind.Times)
    ∷ spelled "+" (token Kind.Plus)
    ∷ spelled "-" (token Kind.Minus)
    ∷ spelled "&" (token Kind.And)
    ∷ spelled "|" (token Kind.Or)
    ∷ spelled "~" (token Kind.Not)
    ∷ spelled "<=" (token Kind.Part)
    ∷ spelled "<=m" measured
    ∷ spelled "=0" (token Kind.IsZero)
    ∷ spelled "= 0" (token Kind.IsZero)
    ∷ spelled "->" (token Kind.Implies)
    ∷ spelled "<->" (token Kind.Iff)
    ∷ []

-- the text starts with these bytes
unfoldable pub starts : List ℕ → List ℕ → Bool
starts [] s = true
starts (x ∷ xs) [] = false
starts (x ∷ xs) (b ∷ s) = eqb b x && starts xs s

-- "The runs T, F, C, 0 and 1, alone, are the two formula constants, the contact sign and the two term constants"
unfoldable pub constant_kind : ℕ → Kind
constant_kind b =
    cond (eqb b (byte "T")) Kind.Truth
    (cond (eqb b (byte "F")) Kind.Falsity
    (cond (eqb b (byte "C")) Kind.Contact
    (cond (eqb b (byte "0")) Kind.Zero
    (cond (eqb b (byte "1")) Kind.One Kind.Name))))

-- "every other run is a name, so "01" and "Ta" are names"
abbrev pub run_kind : List ℕ → Kind
run_kind [] = Kind.Name
run_kind (b ∷ []) = constant_kind b
run_kind (b ∷ d ∷ s) = Kind.Name
