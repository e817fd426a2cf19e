-- What is meant: the answer for a rule text: refusals 2, 1, 3, 4, 5 and 6 of the table of calls, from the top down, or the formula. Assumes
-- nothing.
use Rattle.std.specs.Prelude.{List, [], ◌∷◌, map, ℕ, ◌≤◌, ◌<◌, length, get_or}
use Rattle.formula.specs.Formula.{Formula, Name}
use Rattle.lexer.specs.Token.{Token, bytes_of}
use Rattle.lexer.specs.Cutting.{tokens, refused, Cut}
use Rattle.lexer.specs.declared.LexError.TheVariants as LexError
use Rattle.syntax.specs.Symbol.{Symbol, symbol_of}
use Rattle.syntax.specs.Grammar.{Derives}
use Rattle.syntax.specs.Refusal.{Refusal}
use Rattle.syntax.specs.declared.RuleAnswer.{RuleAnswer}

-- the tokens of a text as symbols: a name is its bytes
abbrev pub symbols_of : List ℕ → List Token → List (Symbol Name)
symbols_of s ts = map (λ (t : Token). symbol_of t.kind (bytes_of s t)) ts

-- "token's first byte, or the text's length"
abbrev pub place_of : List ℕ → List Token → ℕ → ℕ
place_of s ts i = get_or (map (λ (t : Token). t.start) ts) i (length s)

-- the text is a rule, and means the formula f
pub record IsRule (s : List ℕ) (f : Formula Name) : Type 0 where
  pub short : length s ≤ 256
  pub cut_tokens : List Token
  pub cut : Cut 0 s (tokens cut_tokens)
  pub derived : Derives (symbols_of s cut_tokens) f

-- the text is answered so
pub data Answers (s : List ℕ) : RuleAnswer → Type 0 where
  formula : {f : Formula Name} → IsRule s f → Answers s RuleAnswer.Formula
  -- 2: "more than 256 bytes"
  too_long : 256 < length s → Answers s RuleAnswer.TooLong
  -- 1: "no token and no foreign byte"
  no_token : length s ≤ 256 → Cut 0 s (tokens []) → Answers s RuleAnswer.NoToken
  -- 3, 4 and 5: "add, tokens, first place wins"
  foreign_byte : {i : ℕ} → length s ≤ 256 → Cut 0 s (refused (LexError.ForeignByte i)) → Answers s (RuleAnswer.ForeignByte i)
  name_long : {i : ℕ} → length s ≤ 256 → Cut 0 s (refused (LexError.LongName i)) → Answers s (RuleAnswer.LongName i)
  measured : {i : ℕ} → length s ≤ 256 → Cut 0 s (refused (LexError.Measured i)) → Answers s (RuleAnswer.Measured i)
  -- 6: "tokens up to here begin no formula, or text ends early"
  grammar : {t : Token} {ts : List Token} {j : ℕ} → length s ≤ 256 → Cut 0 s (tokens (t ∷ ts)) → Refusal (symbols_of s (t ∷ ts)) j
      → Answers s (RuleAnswer.GrammarAt (place_of s (t ∷ ts) j))
