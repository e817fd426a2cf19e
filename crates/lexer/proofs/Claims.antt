-- What is proved of the cutting of a text, for whoever builds on it: the cutter computes the one cutting that is meant, and its tokens lie
-- in the text, apart and in rising order. Each claim cites the file that proves it. Assumes nothing.
use Rattle.std.specs.Prelude.{Err}
use mathlib.Core.Path.{◌≡◌, refl, sym, ◌∙◌}
use mathlib.Core.List.{List, []}
use Prim.Native.Nat.{ℕ, ◌+◌, ◌≤◌, ◌<◌}
use native.Mathlib.Omega.{arith}
use lib.ListN.{length, get_or}
use Rattle.lexer.specs.Token.{Token, bytes_of}
use Rattle.lexer.specs.Cutting.{Cutting, tokens, AllAlphanumeric, AllBlank, Cut}
use Rattle.lexer.specs.Placement.{TokenIn, Placed}
use Rattle.lexer.specs.Cutter.{cutting}
use Rattle.lexer.specs.Arrays.{code_of, tokens_of, lexed_of, lexed}
use Rattle.lexer.specs.declared.Kind.TheVariants as Kind
use Rattle.lexer.specs.declared.LexError.{LexError}
use Rattle.lexer.proofs.Sound.{sound}
use Rattle.lexer.proofs.Unique.{determined}
use Rattle.lexer.proofs.Placement.{placed_from, blank_cut, cut_blank, placed_at, rising_at, few}
use Rattle.lexer.proofs.Filling.{lexed_long, lexed_short, field_at}

-- ---- "Tokens are cut from the left, the longest match taken"

pub computed_is_meant : (s : List ℕ) → Cut 0 s (cutting s)
computed_is_meant s = sound s

pub meant_is_computed : (s : List ℕ) (r : Cutting) → Cut 0 s r → r ≡ cutting s
meant_is_computed s r c = determined c

pub meant_is_unique : (s : List ℕ) (q r : Cutting) → Cut 0 s q → Cut 0 s r → q ≡ r
meant_is_unique s q r c d = determined c ∙ sym (determined d)

-- ---- the answer for a text

-- refusal 2: "more than 256 bytes"
pub lexed_too_long : (s : List ℕ) → 256 < length s → lexed s ≡ Err LexError.TooLong
lexed_too_long s h = lexed_long s h

pub lexed_cutting : (s : List ℕ) → length s ≤ 256 → lexed s ≡ lexed_of (cutting s)
lexed_cutting s h = lexed_short s h

-- refusal 1: "no token and no foreign byte", that is, blank bytes only
pub blank_text : (s : List ℕ) → AllBlank s → cutting s ≡ tokens []
blank_text s h = sym (determined (blank_cut s 0 h))

pub no_token : (s : List ℕ) → cutting s ≡ tokens [] → AllBlank s
no_token s e = cut_blank (sound s) e

-- ---- the tokens of a text

module _ (s : List ℕ) (ts : List Token) (e : cutting s ≡ tokens ts) where
  pub placed : Placed s 0 ts
  placed = placed_from (sound s) s refl ts e

  -- a token has a byte of its own, so there are at most as many as bytes
  pub at_most : length ts ≤ length s
  at_most = omega (arith, few s 0 ts placed (omega arith))

  module _ (i : ℕ) (d : Token) (h : i < length ts) where
    pub token_in : TokenIn s 0 (get_or ts i d)
    token_in = placed_at s 0 ts placed i d h

    -- refusal 4 is "name over 16 bytes", so a name that is cut has at most 16
    pub name_bytes : (get_or ts i d).kind ≡ Kind.Name → (1 ≤ (get_or ts i d).len) × ((get_or ts i d).len ≤ 16) × AllAlphanumeric (bytes_of s (get_or ts i d))
    name_bytes k = (token_in.some, token_in.short, token_in.name k)

  -- tokens do not overlap, and a later one starts where an earlier one ends or after it
  pub rising : (i k : ℕ) (d : Token) → i < k → k < length ts → (get_or ts i d).start + (get_or ts i d).len ≤ (get_or ts k d).start
  rising i k d l h = rising_at s 0 ts placed i k d l h

-- ---- the arrays of a list of tokens

module _ (ts : List Token) (i : ℕ) (d : Token) (h : i < length ts) where
  pub kind_at_lem : get_or (tokens_of ts).kinds i 0 ≡ code_of (get_or ts i d).kind
  unfolding tokens_of
  kind_at_lem = field_at (λ (t : Token). code_of t.kind) ts i d h

  pub start_at : get_or (tokens_of ts).starts i 0 ≡ (get_or ts i d).start
  unfolding tokens_of
  start_at = field_at (λ (t : Token). t.start) ts i d h

  pub len_at : get_or (tokens_of ts).lens i 0 ≡ (get_or ts i d).len
  unfolding tokens_of
  len_at = field_at (λ (t : Token). t.len) ts i d h

pub count : (ts : List Token) → (tokens_of ts).n ≡ length ts
unfolding tokens_of
count ts = refl
